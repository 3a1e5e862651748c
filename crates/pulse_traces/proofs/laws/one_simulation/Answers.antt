use Rattle.pulse_traces.proofs.OneText as text
use Rattle.pulse_traces.proofs.laws.one_simulation.Goals as goal

pub returns : goal.returns
returns c = text.one_simulation c.cycles_of_orders.ensures.one_cycles
