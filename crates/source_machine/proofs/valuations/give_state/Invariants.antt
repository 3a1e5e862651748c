use Rattle.std.proofs.Common.{map}
use Rattle.source_machine.proofs.Evaluating.{IsGivenTo}
use Rattle.source_machine.proofs.valuations.give_state.Given as goal

-- the nets so far have their bits
abbrev pub invariant-loop-place : goal.invariant-loop-place
invariant-loop-place l = IsGivenTo l.fn.bits (map (λ latch. latch.out.number) l.latches) l.state l.place l.bits
