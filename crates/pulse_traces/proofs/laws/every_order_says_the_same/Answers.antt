use Rattle.pulse_traces.proofs.WorldCycles.{simulated_in_world, replayed_in_world}
use Rattle.pulse_traces.proofs.RunTexts as texts
use Rattle.pulse_traces.proofs.laws.every_order_says_the_same.Goals as goal

pub returns-clause-simulated : goal.returns-clause-simulated
returns-clause-simulated c = simulated_in_world c.whole_runs.ensures.lead_on

pub returns-clause-replayed : goal.returns-clause-replayed
returns-clause-replayed c = replayed_in_world c.whole_runs.ensures.lead_on

pub returns-clause-order_says : goal.returns-clause-order_says
returns-clause-order_says c = texts.simulated_says_bits c.every_order.ensures.rails c.whole_runs.ensures.lead_on

pub returns-clause-script_says : goal.returns-clause-script_says
returns-clause-script_says c = texts.replayed_says_bits c.every_order.ensures.rails c.whole_runs.ensures.lead_on

pub returns-clause-faultless : goal.returns-clause-faultless
returns-clause-faultless c = texts.faultless_is_whole c.every_order.ensures.rails c.whole_runs.ensures.lead_on

pub returns-clause-orders : goal.returns-clause-orders
returns-clause-orders c = texts.orders_agree c.every_order.ensures.rails c.whole_runs.ensures.lead_on

pub returns-clause-scripts : goal.returns-clause-scripts
returns-clause-scripts c = texts.scripts_agree c.every_order.ensures.rails c.whole_runs.ensures.lead_on
