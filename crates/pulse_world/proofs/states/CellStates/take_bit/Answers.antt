use Rattle.std.proofs.Common.{◌≡◌, ◌∙◌, false, Some, slice_get, slice_set, get_or, ap, sym, subst}
use Rattle.cell_netlist.specs.declared.kinds.Port.TheVariants.{A}
use Rattle.pulse_world.specs.PackedStates.{PlainStates, bit_place, droc_with}
use Rattle.pulse_world.proofs.StateBits.{first-there, set-here}
use Rattle.pulse_world.proofs.PulsedGates.{droc-there, droc-put, droc-packed}
use Rattle.pulse_world.proofs.states.CellStates.take_bit.Goals as goal

pub invariant_of-self : goal.invariant_of-self
invariant_of-self c =
    let inside = c.self.inside in
    let at = subst (λ (kept : PlainStates). slice_get kept.cells c.args.id.number ≡ Some c.requires.0) (sym c.self.view_is) c.requires.1 in
    (rw (c.set.ensures, c.bit_of-then-bit.ensures) (droc-packed inside.cells.now inside.bits c.self.invariant.0 c.args.id.number c.requires.0 at c.requires.2 false), c.self.invariant.1)

pub returns-then-bit : goal.returns-then-bit
returns-then-bit c =
    let inside = c.self.inside in
    let at = subst (λ (kept : PlainStates). slice_get kept.cells c.args.id.number ≡ Some c.requires.0) (sym c.self.view_is) c.requires.1 in
    let bit : slice_get inside.bits (bit_place c.args.id.number A) ≡ Some c.get-bit.result = rw c.bit_of.ensures at c.get-bit.ensures in
    let there = first-there inside.cells.now inside.bits c.self.invariant.0 c.args.id.number c.requires.0 at in
    let was = droc_with (get_or inside.bits (bit_place c.args.id.number A) false) in
    let same : c.get-bit.result ≡ get_or inside.bits (bit_place c.args.id.number A) false = cc in (
      was,
      subst (λ (kept : PlainStates). slice_get kept.states c.args.id.number ≡ Some was) c.self.view_is
          (droc-there inside.cells.now inside.bits c.self.invariant.0 c.args.id.number c.requires.0 at c.requires.2),
      same,
      rw (c.set.ensures, c.bit_of-then-bit.ensures) (ap (λ states. record { cells = inside.cells.now; states = states })
          (droc-put inside.cells.now inside.bits c.self.invariant.0 c.args.id.number c.requires.0 at c.requires.2 false))
          ∙ ap (λ (kept : PlainStates). record kept { states = slice_set kept.states c.args.id.number (droc_with false) }) c.self.view_is,
    )

pub returns-else-bit : goal.returns-else-bit
returns-else-bit c =
    let inside = c.self.inside in
    let at = subst (λ (kept : PlainStates). slice_get kept.cells c.args.id.number ≡ Some c.requires.0) (sym c.self.view_is) c.requires.1 in
    let bit : slice_get inside.bits (bit_place c.args.id.number A) ≡ Some c.get-bit.result = rw c.bit_of.ensures at c.get-bit.ensures in
    let first = first-there inside.cells.now inside.bits c.self.invariant.0 c.args.id.number c.requires.0 at in
    let none : get_or inside.bits (bit_place c.args.id.number A) false ≡ false = let clear = c.if-bit.false in cc in
    let there : slice_get c.args.self.now.states c.args.id.number ≡ Some (droc_with false) =
    subst (λ (kept : PlainStates). slice_get kept.states c.args.id.number ≡ Some (droc_with false)) c.self.view_is
    (droc-there inside.cells.now inside.bits c.self.invariant.0 c.args.id.number c.requires.0 at c.requires.2 ∙ ap (λ b. Some (droc_with b)) none) in (
      droc_with false,
      there,
      c.if-bit.false,
      ap (λ states. record c.args.self.now { states = states }) (sym (set-here c.args.self.now.states c.args.id.number (droc_with false) there)),
    )
