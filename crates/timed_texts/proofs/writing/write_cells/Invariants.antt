-- The loop of the cells.
use Rattle.std.proofs.Common.{◌≡◌, take, IsFalse}
use Rattle.std.specs.List.{flat_map}
use Rattle.std.specs.Io.KnownBytes.{Appends}
use Rattle.timed_texts.specs.Texts.{spaced_cell}
use Rattle.timed_texts.proofs.writing.write_cells.Given as goal

-- the cells so far were written, and the sink has not failed and isn't flushed, if it wasn't
abbrev pub invariant-loop-place : goal.invariant-loop-place
invariant-loop-place g l = record {
  written : Appends (g.K.Sink.taken l.fn.out) (g.K.Sink.taken l.out) (flat_map spaced_cell (take l.place l.fn.bound.path));
  calm : g.K.Sink.faults l.out ≡ g.K.Sink.faults l.fn.out;
  unflushed : IsFalse (g.K.Sink.flushed l.fn.out) → IsFalse (g.K.Sink.flushed l.out);
}
