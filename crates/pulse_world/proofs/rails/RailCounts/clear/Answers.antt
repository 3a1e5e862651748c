use Rattle.std.proofs.Common.{◌∙◌, ℕ, length, replicate, ap, sym, if◌then◌else◌}
use Rattle.std.proofs.lemmas.List.{length-map}
use Rattle.pulse_world.specs.PackedStates.{counts_by}
use Rattle.pulse_world.proofs.QueueRoom.{counts-zero}
use Rattle.pulse_world.proofs.rails.RailCounts.clear.Goals as goal

pub returns : goal.returns
returns c =
    let bits = c.self.inside.pulsed in
    ap counts_by c.clear_bits.ensures
    ∙ (counts-zero (length bits)
    ∙ ap (λ n. replicate {A = ℕ} n 0) (sym (length-map bits (λ pulsed. if pulsed then 1 else 0)) ∙ ap length c.self.view_is))
