use Rattle.std.proofs.Common.{◌≡◌, take}
use Rattle.std.specs.List.{flat_map}
use Rattle.std.specs.Io.KnownBytes.{Appends}
use Rattle.pulse_traces.specs.Pieces.{spaced_wire}
use Rattle.pulse_traces.proofs.lines.write_wires.Given as goal

-- those so far were written, and the sink has not failed
abbrev pub invariant-loop-wire : goal.invariant-loop-wire
invariant-loop-wire g l = record {
  written : Appends (g.K.Sink.taken l.fn.out) (g.K.Sink.taken l.out) (flat_map spaced_wire (take l.wire-index l.wires));
  calm : g.K.Sink.faults l.out ≡ g.K.Sink.faults l.fn.out;
}
