use Rattle.std.proofs.Common.{◌≡◌}
use Rattle.pulse_world.proofs.PreloadedStates.{preloaded_to}
use Rattle.pulse_world.proofs.states.preload_all.Given as goal

abbrev pub invariant-loop-number : goal.invariant-loop-number
invariant-loop-number l = l.kept ≡ record l.fn.kept { states = preloaded_to l.number l.fn.kept.cells }
