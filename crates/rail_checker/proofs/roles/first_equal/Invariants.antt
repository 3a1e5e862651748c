use Rattle.rail_checker.specs.Tables.{has_equal_preload}
use Rattle.rail_checker.proofs.Refusing.{NonePassesBefore}
use Rattle.rail_checker.proofs.roles.first_equal.Given as goal

-- no cell so far passes the test
abbrev pub invariant-loop-number : goal.invariant-loop-number
invariant-loop-number l = NonePassesBefore (has_equal_preload l.fronts) l.cells l.number
