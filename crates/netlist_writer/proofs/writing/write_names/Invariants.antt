-- The loop of names.
use Rattle.std.proofs.Common.{◌≡◌, take, IsFalse}
use Rattle.std.specs.List.{flat_map}
use Rattle.std.specs.Io.KnownBytes.{Appends}
use Rattle.netlist_writer.specs.Texts.{name_line}
use Rattle.netlist_writer.proofs.writing.write_names.Given as goal

-- the lines so far were written, and the sink has not failed and isn't flushed, if it wasn't
abbrev pub invariant-loop-named : goal.invariant-loop-named
invariant-loop-named g l = record {
  written : Appends (g.K.Sink.taken l.fn.out) (g.K.Sink.taken l.out) (flat_map (name_line l.side) (take l.named-index l.names));
  calm : g.K.Sink.faults l.out ≡ g.K.Sink.faults l.fn.out;
  unflushed : IsFalse (g.K.Sink.flushed l.fn.out) → IsFalse (g.K.Sink.flushed l.out);
}
