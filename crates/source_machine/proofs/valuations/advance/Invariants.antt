use Rattle.std.proofs.Common.{◌≡◌, length, map, take}
use Rattle.pulse_ids.specs.Lists.{bit_at}
use Rattle.source_machine.specs.Machines.{literal_of}
use Rattle.source_machine.specs.Runs.{literal_value}
use Rattle.source_machine.proofs.valuations.advance.Given as goal

-- the bits so far are the next ones
abbrev pub invariant-loop-place : goal.invariant-loop-place
invariant-loop-place l = record {
  width : length l.state ≡ length l.latches;
  so_far : take l.place l.state ≡ map (λ latch. literal_value (bit_at l.bits) (literal_of latch.next)) (take l.place l.latches);
}
