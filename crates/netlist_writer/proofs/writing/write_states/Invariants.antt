-- The loop of the lines.
use Rattle.std.proofs.Common.{◌≡◌, take, IsFalse}
use Rattle.std.specs.List.{flat_map}
use Rattle.std.specs.Io.KnownBytes.{Appends}
use Rattle.netlist_writer.specs.Texts.{state_line}
use Rattle.netlist_writer.proofs.writing.write_states.Given as goal

-- the lines so far were written, and the sink has not failed and isn't flushed, if it wasn't
abbrev pub invariant-loop-state : goal.invariant-loop-state
invariant-loop-state g l = record {
  written : Appends (g.K.Sink.taken l.fn.out) (g.K.Sink.taken l.out) (flat_map state_line (take l.state-index l.states));
  calm : g.K.Sink.faults l.out ≡ g.K.Sink.faults l.fn.out;
  unflushed : IsFalse (g.K.Sink.flushed l.fn.out) → IsFalse (g.K.Sink.flushed l.out);
}
