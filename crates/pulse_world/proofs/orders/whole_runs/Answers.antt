use Rattle.pulse_world.proofs.WholeRuns.{moments_lead_on, whole_run_exists, every_run_goes_on, next_phase_opens, whole_run_ends}
use Rattle.pulse_world.proofs.WholeCycles.{whole_runs_have_cycles}
use Rattle.pulse_world.proofs.orders.whole_runs.Goals as goal

pub returns-clause-lead_on : goal.returns-clause-lead_on
returns-clause-lead_on c = moments_lead_on

pub returns-clause-exists : goal.returns-clause-exists
returns-clause-exists c = whole_run_exists

pub returns-clause-goes_on : goal.returns-clause-goes_on
returns-clause-goes_on c = every_run_goes_on

pub returns-clause-opens : goal.returns-clause-opens
returns-clause-opens c = next_phase_opens

pub returns-clause-ends : goal.returns-clause-ends
returns-clause-ends c = whole_run_ends

pub returns-clause-cycles : goal.returns-clause-cycles
returns-clause-cycles c = whole_runs_have_cycles
