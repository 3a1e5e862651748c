-- A line that fails leaves the line before it.
use Rattle.std.proofs.Common.{map}
use Rattle.byte_ports.proofs.CallerLemmas.{wrote_first, wrote_second, ok_so, err_so}
use Rattle.schedule_replay.specs.Logs.{wire_number}
use Rattle.pulse_traces.specs.SimulationTexts.{deliver_line}
use Rattle.pulse_traces.proofs.lines.write_both.Goals as goal

pub returns-in_err-write_deliveries : goal.returns-in_err-write_deliveries
returns-in_err-write_deliveries g c =
    wrote_first _ _ _ _ _ _ (deliver_line (map wire_number c.args.excite.now)) (deliver_line (map wire_number c.args.relax.now))
    (err_so c.in_err-write_deliveries.was) c.from_residual.ensures.0 c.write_deliveries.ensures

pub returns : goal.returns
returns g c =
    wrote_second _ _ _ _ _ _ _ _ (deliver_line (map wire_number c.args.excite.now)) (deliver_line (map wire_number c.args.relax.now))
    (ok_so c.in_ok-write_deliveries.was) c.write_deliveries.ensures c.write_deliveries-2.ensures
