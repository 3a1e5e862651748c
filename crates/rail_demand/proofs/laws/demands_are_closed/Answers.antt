use Rattle.rail_demand.proofs.LeastSet.{needed_inside, demands_have_outputs, demands_are_closed}
use Rattle.rail_demand.proofs.laws.demands_are_closed.Goals as goal

pub returns : goal.returns
returns c = record {
  inside = needed_inside c.nodes_have_values.ensures.pairs;
  outputs = demands_have_outputs;
  closed = demands_are_closed c.nodes_have_values.ensures.pairs;
}
