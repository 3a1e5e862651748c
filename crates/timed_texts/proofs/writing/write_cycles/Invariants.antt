-- The loop of the cycles.
use Rattle.std.proofs.Common.{◌≡◌, take}
use Rattle.std.specs.Io.KnownBytes.{Appends}
use Rattle.timed_texts.specs.Texts.{times_text}
use Rattle.timed_texts.proofs.writing.write_cycles.Given as goal

-- the lines of the cycles so far were written, and the sink has not failed
abbrev pub invariant-loop-number : goal.invariant-loop-number
invariant-loop-number g l = record {
  written : Appends (g.K.Sink.taken l.fn.out) (g.K.Sink.taken l.out) (times_text 0 (take l.number l.cycles));
  calm : g.K.Sink.faults l.out ≡ g.K.Sink.faults l.fn.out;
}
