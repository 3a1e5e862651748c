-- The loop of the lines.
use Rattle.std.proofs.Common.{◌≡◌, ◌<◌, take, IsFalse}
use Rattle.std.specs.List.{flat_map}
use Rattle.std.specs.Io.KnownBytes.{Appends}
use Rattle.junction_report.specs.Texts.{line_text}
use Rattle.junction_report.proofs.writing.write_lines.Given as goal

-- the lines so far were written, and the sink has not failed and isn't flushed after a line
abbrev pub invariant-loop-line : goal.invariant-loop-line
invariant-loop-line g l = record {
  written : Appends (g.K.Sink.taken l.fn.out) (g.K.Sink.taken l.out) (flat_map line_text (take l.line-index l.lines));
  calm : g.K.Sink.faults l.out ≡ g.K.Sink.faults l.fn.out;
  unflushed : 0 < l.line-index → IsFalse (g.K.Sink.flushed l.out);
}
