use Rattle.std.proofs.Common.{◌≡◌}
use Rattle.random_machines.proofs.agreeing.three_agree.Given as goal

abbrev pub invariant-loop-cycle : goal.invariant-loop-cycle
invariant-loop-cycle l = l.world.net ≡ l.fn.world.net
