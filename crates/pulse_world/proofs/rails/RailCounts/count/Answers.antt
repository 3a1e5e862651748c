use Rattle.std.proofs.Common.{◌∙◌, ◌+◌, ℕ, true, slice_set, ap, sym, if◌then◌else◌}
use Rattle.std.proofs.lemmas.List.{map-set}
use Rattle.std.proofs.lemmas.Option.{get_or_from_slice_get}
use Rattle.pulse_world.specs.PackedStates.{counts_by}
use Rattle.pulse_world.proofs.rails.RailCounts.count.Goals as goal

pub returns : goal.returns
returns c =
    let none = get_or_from_slice_get c.args.self.now c.args.id.number 0 0 c.requires in
    ap counts_by c.set.ensures
    ∙ (map-set (λ pulsed. if pulsed then 1 else 0) c.self.inside.pulsed c.args.id.number true
    ∙ (ap (λ counts. slice_set counts c.args.id.number 1) c.self.view_is
    ∙ ap (λ (n : ℕ). slice_set c.args.self.now c.args.id.number (n + 1)) (sym none)))
