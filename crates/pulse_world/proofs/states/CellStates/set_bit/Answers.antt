use Rattle.std.proofs.Common.{◌≡◌, ◌∙◌, Some, false, slice_get, slice_set, get_or, ap, sym, subst}
use Rattle.pulse_world.specs.PackedStates.{PlainStates, bit_place, droc_with}
use Rattle.cell_netlist.specs.declared.kinds.Port.TheVariants.{A}
use Rattle.pulse_world.proofs.PulsedGates.{droc-there, droc-put, droc-packed}
use Rattle.pulse_world.proofs.states.CellStates.set_bit.Goals as goal

pub invariant_of-self : goal.invariant_of-self
invariant_of-self c =
    let inside = c.self.inside in
    let at = subst (λ (kept : PlainStates). slice_get kept.cells c.args.id.number ≡ Some c.requires.0) (sym c.self.view_is) c.requires.1 in
    (rw (c.set.ensures, c.bit_of.ensures) (droc-packed inside.cells.now inside.bits c.self.invariant.0 c.args.id.number c.requires.0 at c.requires.2 c.args.bit), c.self.invariant.1)

pub returns : goal.returns
returns c =
    let inside = c.self.inside in
    let at = subst (λ (kept : PlainStates). slice_get kept.cells c.args.id.number ≡ Some c.requires.0) (sym c.self.view_is) c.requires.1 in
    let was = droc_with (get_or inside.bits (bit_place c.args.id.number A) false) in (
      was,
      subst (λ (kept : PlainStates). slice_get kept.states c.args.id.number ≡ Some was) c.self.view_is
          (droc-there inside.cells.now inside.bits c.self.invariant.0 c.args.id.number c.requires.0 at c.requires.2),
      rw (c.set.ensures, c.bit_of.ensures) (ap (λ states. record { cells = inside.cells.now; states = states })
          (droc-put inside.cells.now inside.bits c.self.invariant.0 c.args.id.number c.requires.0 at c.requires.2 c.args.bit))
          ∙ ap (λ (kept : PlainStates). record kept { states = slice_set kept.states c.args.id.number (droc_with c.args.bit) }) c.self.view_is,
    )
