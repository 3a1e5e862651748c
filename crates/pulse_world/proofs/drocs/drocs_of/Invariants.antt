use Rattle.std.proofs.Common.{◌≡◌, ◌++◌, drop}
use Rattle.pulse_world.specs.PackedStates.{drocs_from, numbers_in}
use Rattle.pulse_world.proofs.drocs.drocs_of.Given as goal

abbrev pub invariant-loop-number : goal.invariant-loop-number
invariant-loop-number l = numbers_in l.drocs.items ++ drocs_from l.number (drop l.number l.cells) ≡ drocs_from 0 l.cells
