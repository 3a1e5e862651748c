-- The wires of the numbers so far.
use Rattle.std.proofs.Common.{length}
use Rattle.schedule_replay.specs.VectorLines.{wire_of, spaced}
use Rattle.schedule_replay.proofs.Adding.{AddsUpTo}
use Rattle.schedule_replay.proofs.vector_lines.push_wires.Given as goal

abbrev pub invariant-loop-number : goal.invariant-loop-number
invariant-loop-number l = AddsUpTo wire_of (spaced l.numbers) (spaced l.rest) l.fn.wires l.wires

abbrev pub decreases-loop-number : goal.decreases-loop-number
decreases-loop-number l = length l.rest
