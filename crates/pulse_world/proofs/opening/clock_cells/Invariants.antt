use Rattle.std.proofs.Common.{ℕ}
use Rattle.pulse_world.proofs.ClockedCells.{ClockedTo}
use Rattle.pulse_world.proofs.opening.clock_cells.Given as goal

abbrev pub invariant-loop-place : goal.invariant-loop-place
invariant-loop-place l = (at : ℕ) × ClockedTo l.fn.cell_states l.cell_states l.fn.pending l.pending l.place at
