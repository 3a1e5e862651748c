use Rattle.graph_build.proofs.GraphRuns.{graphs_run_alike}
use Rattle.graph_build.proofs.laws.graphs_run_alike.Goals as goal

pub returns : goal.returns
returns c = graphs_run_alike
