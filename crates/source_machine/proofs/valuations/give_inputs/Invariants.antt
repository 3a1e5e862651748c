use Rattle.std.proofs.Common.{map}
use Rattle.source_machine.proofs.Evaluating.{IsGivenTo}
use Rattle.source_machine.proofs.valuations.give_inputs.Given as goal

-- the nets so far have their bits
abbrev pub invariant-loop-place : goal.invariant-loop-place
invariant-loop-place l = IsGivenTo l.fn.bits (map (λ net. net.number) l.nets) l.vector l.place l.bits
