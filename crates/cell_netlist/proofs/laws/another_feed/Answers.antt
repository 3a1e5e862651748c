use Rattle.cell_netlist.proofs.FeedLemmas.{leaves_rest}
use Rattle.cell_netlist.proofs.laws.another_feed.Goals as goal

pub returns : goal.returns
returns c = λ net number feed. leaves_rest feed net number
