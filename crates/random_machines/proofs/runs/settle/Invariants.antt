use Rattle.std.proofs.Common.{◌≡◌}
use Rattle.random_machines.proofs.runs.settle.Given as goal

abbrev pub invariant-loop-delivery : goal.invariant-loop-delivery
invariant-loop-delivery l = l.world.net ≡ l.fn.world.net
