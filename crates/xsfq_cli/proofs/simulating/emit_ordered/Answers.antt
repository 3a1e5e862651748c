-- The text was written, and then the output was flushed, or not.
use Rattle.std.proofs.Common.{refl}
use Rattle.byte_ports.proofs.CallerLemmas.{ok_so}
use Rattle.pulse_traces.specs.SimulationTexts.{simulation_text}
use Rattle.xsfq_cli.specs.declared.orders.Schedule.TheVariants as schedules
use Rattle.run_outcomes.specs.declared.outcomes.Outcome.TheVariants as outcomes
use Rattle.xsfq_cli.specs.Simulated.{Simulates}
use Rattle.xsfq_cli.proofs.Emitting.{flushed_after}
use Rattle.xsfq_cli.proofs.simulating.emit_ordered.Goals as goal

pub returns-in-Ok : goal.returns-in-Ok
returns-in-Ok g c =
    let its = c.write.ensures in
    flushed_after g.K.Sink.taken g.K.Sink.faults g.K.Sink.flushed
    (Simulates (schedules.Order c.args.order) c.args.trace (record { net = c.args.simulation; vectors = c.args.vectors.now }))
    (simulation_text c.args.trace c.args.simulation its.cycles) outcomes.Done (its.cycles, its.simulated, refl, refl)
    c.args.output.now c.write.new.out c.flush_at.new.output c.write.result c.flush_at.result (ok_so c.in-Ok.is) its.wrote
    c.flush_at.ensures.bytes c.flush_at.ensures.cause c.flush_at.ensures.flushed c.flush_at.ensures.same
