use Rattle.std.proofs.Common.{◌≡◌, ◌<◌, ℕ, Some, slice_get}
use Rattle.cell_netlist.specs.declared.kinds.Held.TheVariants.{Rest}
use Rattle.cell_netlist.specs.declared.kinds.CellState.{CellState}
use Rattle.pulse_world.proofs.worlds.do_rest.Given as goal

abbrev pub invariant-loop-number : goal.invariant-loop-number
invariant-loop-number l = (at : ℕ) (its : CellState) → at < l.number → slice_get l.cell_states.states at ≡ Some its → its.held ≡ Rest
