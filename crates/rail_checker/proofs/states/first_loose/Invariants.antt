use Rattle.rail_checker.proofs.StateMarks.{AreMarks}
use Rattle.rail_checker.proofs.states.first_loose.Given as goal

-- the marks are those of the state lines so far, none of which is loose
abbrev pub invariant-loop-k : goal.invariant-loop-k
invariant-loop-k l = AreMarks l.net l.k l.named
