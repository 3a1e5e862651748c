use Rattle.rail_demand.proofs.SmallDemands.{rails_are_judged}
use Rattle.rail_demand.proofs.laws.examples.Goals as goal

pub returns : goal.returns
returns c = rails_are_judged
