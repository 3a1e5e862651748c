use Rattle.graph_build.proofs.SmallGraphs.{graphs_are_judged}
use Rattle.graph_build.proofs.SmallOrders.{orders_are_judged}
use Rattle.graph_build.proofs.laws.examples.Goals as goal

pub returns : goal.returns
returns c = record { graphs = graphs_are_judged c.examples.ensures.tidy.half_adder_is; orders = orders_are_judged }
