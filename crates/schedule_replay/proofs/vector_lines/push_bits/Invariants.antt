-- The bits of the digits so far.
use Rattle.std.proofs.Common.{drop}
use Rattle.schedule_replay.specs.VectorLines.{bit_of}
use Rattle.schedule_replay.proofs.Adding.{AddsUpTo}
use Rattle.schedule_replay.proofs.vector_lines.push_bits.Given as goal

abbrev pub invariant-loop-digit : goal.invariant-loop-digit
invariant-loop-digit l = AddsUpTo bit_of l.digits (drop l.digit-index l.digits) l.fn.bits l.bits
