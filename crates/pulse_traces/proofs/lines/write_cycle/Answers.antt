-- A line that fails leaves the lines before it.
use Rattle.std.proofs.Common.{◌∷◌, [], map, decimal}
use Rattle.byte_ports.proofs.CallerLemmas.{wrote_first, wrote_second, ok_so, err_so}
use Rattle.cell_netlist.specs.Text.{line_of}
use Rattle.schedule_replay.specs.Logs.{wire_number}
use Rattle.pulse_traces.specs.SimulationTexts.{trace_text}
use Rattle.pulse_traces.proofs.lines.write_cycle.Goals as goal

pub returns-in_err-write_trace : goal.returns-in_err-write_trace
returns-in_err-write_trace g c =
    wrote_first _ _ _ _ _ _ (trace_text c.args.trace (map wire_number c.args.excite.wires.now) (map wire_number c.args.relax.wires.now))
    (line_of (decimal c.args.number ∷ c.args.excite.digits.now ∷ c.args.relax.digits.now ∷ []))
    (err_so c.in_err-write_trace.was) c.from_residual.ensures.0 c.write_trace.ensures

pub returns : goal.returns
returns g c =
    wrote_second _ _ _ _ _ _ _ _ (trace_text c.args.trace (map wire_number c.args.excite.wires.now) (map wire_number c.args.relax.wires.now))
    (line_of (decimal c.args.number ∷ c.args.excite.digits.now ∷ c.args.relax.digits.now ∷ []))
    (ok_so c.in_ok-write_trace.was) c.write_trace.ensures c.write_pulses.ensures
