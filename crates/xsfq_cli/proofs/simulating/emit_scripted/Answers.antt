-- The text was written up to the first fault, and then the output was flushed, or not.
use Rattle.std.proofs.Common.{refl, ap, ◌∙◌}
use Rattle.pulse_traces.specs.Scripts.{without_fault}
use Rattle.pulse_traces.specs.SimulationTexts.{simulation_text}
use Rattle.xsfq_cli.specs.declared.orders.Schedule.TheVariants as schedules
use Rattle.xsfq_cli.specs.Simulated.{Simulates, ending_of}
use Rattle.xsfq_cli.proofs.Emitting.{fault_told, flushed_after, not_written, replay_failed, replay_written}
use Rattle.xsfq_cli.proofs.simulating.emit_scripted.Goals as goal

pub returns-in-Ok : goal.returns-in-Ok
returns-in-Ok g c =
    let its = c.write_scripted.ensures in
    flushed_after g.K.Sink.taken g.K.Sink.faults g.K.Sink.flushed
    (Simulates schedules.Script c.args.trace (record { net = c.args.simulation; vectors = c.args.vectors.now }))
    (simulation_text c.args.trace c.args.simulation its.made) c.ending.result
    (its.made, its.fault, its.replayed, refl, c.ending.ensures ∙ ap ending_of (fault_told its.fault c.in-Ok.fault c.write_scripted.result c.in-Ok.is its.tells))
    c.args.output.now c.write_scripted.new.out c.flush_at.new.output (without_fault c.write_scripted.result) c.flush_at.result
    (replay_written c.write_scripted.result c.in-Ok.fault c.in-Ok.is) its.wrote
    c.flush_at.ensures.bytes c.flush_at.ensures.cause c.flush_at.ensures.flushed c.flush_at.ensures.same

pub returns-in-Err : goal.returns-in-Err
returns-in-Err g c =
    let its = c.write_scripted.ensures in
    not_written g.K.Sink.taken g.K.Sink.faults g.K.Sink.flushed
    (Simulates schedules.Script c.args.trace (record { net = c.args.simulation; vectors = c.args.vectors.now }))
    (simulation_text c.args.trace c.args.simulation its.made) (ending_of its.fault) (its.made, its.fault, its.replayed, refl, refl)
    c.args.output.now c.write_scripted.new.out (without_fault c.write_scripted.result) c.in-Err.failed
    (replay_failed c.write_scripted.result c.in-Err.failed c.in-Err.is) its.wrote
