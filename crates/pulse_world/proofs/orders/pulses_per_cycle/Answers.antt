use Rattle.pulse_world.proofs.PulsesPerCycle.{once_per_cycle, link_per_cycle, outputs_read_no_link, gates_read_no_link}
use Rattle.pulse_world.proofs.orders.pulses_per_cycle.Goals as goal

pub returns-clause-plain : goal.returns-clause-plain
returns-clause-plain c = once_per_cycle

pub returns-clause-link : goal.returns-clause-link
returns-clause-link c = link_per_cycle

pub returns-clause-outputs : goal.returns-clause-outputs
returns-clause-outputs c = outputs_read_no_link

pub returns-clause-gates : goal.returns-clause-gates
returns-clause-gates c = gates_read_no_link
