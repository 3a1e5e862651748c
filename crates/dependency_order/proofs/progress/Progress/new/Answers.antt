use Rattle.std.proofs.Common.{◌≡◌, length, false, List, Bool, ℕ, sym, subst, ap, ◌∙◌}
use Rattle.std.proofs.lemmas.List.{length-replicate}
use Rattle.dependency_order.specs.Dependencies.{AreBelow}
use Rattle.dependency_order.proofs.progress.Progress.new.Goals as goal

pub set_bits-requires : goal.set_bits-requires
set_bits-requires c =
    let wide : length c.in_ok-known.known.items ≡ c.args.dependencies.now.count = ap (λ (l : List Bool). length l) c.in_ok-known.ensures
    ∙ length-replicate c.count.result false ∙ c.count.ensures in
    subst (λ (n : ℕ). AreBelow n c.starts.result.now) (sym wide) (subst (λ (l : List ℕ). AreBelow c.args.dependencies.now.count l) (sym c.starts.ensures) c.requires.starts_fit)
