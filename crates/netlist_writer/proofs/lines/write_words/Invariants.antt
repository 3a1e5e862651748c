-- The loop of the words.
use Rattle.std.proofs.Common.{◌≡◌, take, IsFalse}
use Rattle.std.specs.List.{flat_map}
use Rattle.std.specs.Io.KnownBytes.{Appends}
use Rattle.netlist_writer.specs.Texts.{spaced}
use Rattle.netlist_writer.proofs.lines.write_words.Given as goal

-- the words so far were written, and the sink has not failed and isn't flushed, if it wasn't
abbrev pub invariant-loop-word : goal.invariant-loop-word
invariant-loop-word g l = record {
  written : Appends (g.K.Sink.taken l.fn.out) (g.K.Sink.taken l.out) (flat_map spaced (take l.word-index l.words));
  calm : g.K.Sink.faults l.out ≡ g.K.Sink.faults l.fn.out;
  unflushed : IsFalse (g.K.Sink.flushed l.fn.out) → IsFalse (g.K.Sink.flushed l.out);
}
