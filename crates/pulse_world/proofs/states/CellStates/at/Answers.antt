use Rattle.std.proofs.Common.{◌≡◌, ◌∙◌, Some, slice_get, ap, sym, subst}
use Rattle.pulse_world.specs.PackedStates.{PlainStates}
use Rattle.pulse_world.proofs.StateBits.{state-read}
use Rattle.pulse_world.proofs.states.CellStates.at.Goals as goal

pub returns-clause-state : goal.returns-clause-state
returns-clause-state c =
    let inside = c.self.inside in
    let cell = subst (λ (kept : PlainStates). slice_get kept.cells c.args.id.number ≡ Some c.cell-cell.result) (sym c.self.view_is) c.cell-cell.ensures in
    let first = rw c.bit_of.ensures at c.get-first.ensures in
    let second = rw c.bit_of-2.ensures at c.get-second.ensures in
    subst (λ (kept : PlainStates). slice_get kept.states c.args.id.number ≡ Some c.unpacked.result) c.self.view_is
    (state-read inside.cells.now inside.bits c.args.id.number c.cell-cell.result c.get-first.result c.get-second.result cell first second
    ∙ ap (λ s. Some s) (sym c.unpacked.ensures))
