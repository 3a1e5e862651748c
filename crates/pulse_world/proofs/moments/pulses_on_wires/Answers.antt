use Rattle.pulse_world.proofs.EmittedWires.{deliveries_emit, deliveries_emit_behind}
use Rattle.pulse_world.proofs.OpeningWires.{openings_pulse, openings_are_pending}
use Rattle.pulse_world.proofs.moments.pulses_on_wires.Goals as goal

pub returns-clause-openings : goal.returns-clause-openings
returns-clause-openings c = openings_pulse

pub returns-clause-opened : goal.returns-clause-opened
returns-clause-opened c = openings_are_pending

pub returns-clause-deliveries : goal.returns-clause-deliveries
returns-clause-deliveries c = deliveries_emit c.readers_of_wires.ensures.delivery c.readers_of_wires.ensures.shape

pub returns-clause-queue : goal.returns-clause-queue
returns-clause-queue c = deliveries_emit_behind
