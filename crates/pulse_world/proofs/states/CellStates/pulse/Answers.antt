use Rattle.std.proofs.Common.{◌≡◌, true, false, Some, slice_get, sym, subst}
use Rattle.pulse_world.specs.PackedStates.{PlainStates, packed_states, bit_place, other_port, HasPulsed}
use Rattle.pulse_world.proofs.PulsedGates.{pulsed, pulsed_bits}
use Rattle.pulse_world.proofs.states.CellStates.pulse.Goals as goal

pub invariant_of-self : goal.invariant_of-self
invariant_of-self c =
    let inside = c.self.inside in
    let at = subst (λ (kept : PlainStates). slice_get kept.cells c.args.id.number ≡ Some c.requires.cell) (sym c.self.view_is) c.requires.at_cell in
    let there = subst (λ (kept : PlainStates). slice_get kept.states c.args.id.number ≡ Some c.requires.state) (sym c.self.view_is) c.requires.at_state in
    let met : slice_get inside.bits (bit_place c.args.id.number (other_port c.args.port)) ≡ Some true = rw (c.bit_of.ensures, c.other.ensures, c.if-met.true) at c.get-met.ensures in
    let did = pulsed inside.cells.now inside.bits c.self.invariant.0 c.args.id.number c.requires.cell at c.requires.gate c.args.port true met c.requires.state there c.requires.free in
    (rw (c.set.ensures, c.bit_of-then-met.ensures, c.other-then-met.ensures) did.0, c.self.invariant.1)

pub invariant_of-self-else-met : goal.invariant_of-self-else-met
invariant_of-self-else-met c =
    let inside = c.self.inside in
    let at = subst (λ (kept : PlainStates). slice_get kept.cells c.args.id.number ≡ Some c.requires.cell) (sym c.self.view_is) c.requires.at_cell in
    let there = subst (λ (kept : PlainStates). slice_get kept.states c.args.id.number ≡ Some c.requires.state) (sym c.self.view_is) c.requires.at_state in
    let met : slice_get inside.bits (bit_place c.args.id.number (other_port c.args.port)) ≡ Some false = rw (c.bit_of.ensures, c.other.ensures, c.if-met.false) at c.get-met.ensures in
    let did = pulsed inside.cells.now inside.bits c.self.invariant.0 c.args.id.number c.requires.cell at c.requires.gate c.args.port false met c.requires.state there c.requires.free in
    (rw (c.set-else-met.ensures, c.bit_of-else-met.ensures) did.0, c.self.invariant.1)

pub returns-then-met : goal.returns-then-met
returns-then-met c =
    let inside = c.self.inside in
    let at = subst (λ (kept : PlainStates). slice_get kept.cells c.args.id.number ≡ Some c.requires.cell) (sym c.self.view_is) c.requires.at_cell in
    let there = subst (λ (kept : PlainStates). slice_get kept.states c.args.id.number ≡ Some c.requires.state) (sym c.self.view_is) c.requires.at_state in
    let met : slice_get inside.bits (bit_place c.args.id.number (other_port c.args.port)) ≡ Some true = rw (c.bit_of.ensures, c.other.ensures, c.if-met.true) at c.get-met.ensures in
    let did = pulsed inside.cells.now inside.bits c.self.invariant.0 c.args.id.number c.requires.cell at c.requires.gate c.args.port true met c.requires.state there c.requires.free in
    rw (c.if-met.true, c.set.ensures, c.bit_of-then-met.ensures, c.other-then-met.ensures)
    (subst (λ (before : PlainStates). HasPulsed before (packed_states inside.cells.now (pulsed_bits inside.cells.now inside.bits c.self.invariant.0 c.args.id.number c.requires.cell at c.requires.gate
    c.args.port true)) c.args.id.number c.args.port true) c.self.view_is did.1)

pub returns-else-met : goal.returns-else-met
returns-else-met c =
    let inside = c.self.inside in
    let at = subst (λ (kept : PlainStates). slice_get kept.cells c.args.id.number ≡ Some c.requires.cell) (sym c.self.view_is) c.requires.at_cell in
    let there = subst (λ (kept : PlainStates). slice_get kept.states c.args.id.number ≡ Some c.requires.state) (sym c.self.view_is) c.requires.at_state in
    let met : slice_get inside.bits (bit_place c.args.id.number (other_port c.args.port)) ≡ Some false = rw (c.bit_of.ensures, c.other.ensures, c.if-met.false) at c.get-met.ensures in
    let did = pulsed inside.cells.now inside.bits c.self.invariant.0 c.args.id.number c.requires.cell at c.requires.gate c.args.port false met c.requires.state there c.requires.free in
    rw (c.if-met.false, c.set-else-met.ensures, c.bit_of-else-met.ensures)
    (subst (λ (before : PlainStates). HasPulsed before (packed_states inside.cells.now (pulsed_bits inside.cells.now inside.bits c.self.invariant.0 c.args.id.number c.requires.cell at c.requires.gate
    c.args.port false)) c.args.id.number c.args.port false) c.self.view_is did.1)
