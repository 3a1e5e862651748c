use Rattle.rail_checker.specs.Needs.{is_loose_in}
use Rattle.rail_checker.proofs.Refusing.{NonePassesBefore}
use Rattle.rail_checker.proofs.grounding.first_loose.Given as goal

-- no cell so far passes the test
abbrev pub invariant-loop-number : goal.invariant-loop-number
invariant-loop-number l = NonePassesBefore (is_loose_in l.order.known) l.cells l.number
