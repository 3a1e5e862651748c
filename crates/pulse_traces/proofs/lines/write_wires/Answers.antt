-- A wire that fails leaves the wires before it.
use Rattle.std.proofs.Common.{arith}
use Rattle.byte_ports.proofs.CallerLemmas.{wrote_up_to, err_so}
use Rattle.pulse_traces.specs.Pieces.{spaced_wire}
use Rattle.pulse_traces.proofs.lines.write_wires.Goals as goal

pub returns-in_err-write_wire : goal.returns-in_err-write_wire
returns-in_err-write_wire g c =
    wrote_up_to spaced_wire c.args.wires.now c.loop-wire.wire-index _ _ _ _ _ _ _ _ _ (omega arith) c.loop-wire.invariant.written c.loop-wire.invariant.calm
    (err_so c.in_err-write_wire.was) c.from_residual.ensures.0 c.write_wire.ensures
