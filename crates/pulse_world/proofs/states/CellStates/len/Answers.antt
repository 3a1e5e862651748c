use Rattle.std.proofs.Common.{◌∙◌, length, ap, sym}
use Rattle.pulse_world.specs.PackedStates.{PlainStates}
use Rattle.pulse_world.proofs.StateBits.{states-length}
use Rattle.pulse_world.proofs.states.CellStates.len.Goals as goal

pub returns-clause-states : goal.returns-clause-states
returns-clause-states c =
    let inside = c.self.inside in
    sym (states-length inside.cells.now inside.bits c.self.invariant.0.two_each) ∙ ap (λ (kept : PlainStates). length kept.states) c.self.view_is
