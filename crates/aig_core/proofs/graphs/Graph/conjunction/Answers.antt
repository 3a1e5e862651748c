use Rattle.std.proofs.Common.{◌∙◌, ap}
use Rattle.aig_core.proofs.NodeLemmas.{node-conjunction-read}
use Rattle.aig_core.proofs.graphs.Graph.conjunction.Goals as goal

pub returns : goal.returns
returns c =
    node-conjunction-read c.args.self.now c.as_slice.result.now c.args.place c.index-as_slice-place.result c.low.result c.high.result
    (c.as_slice.ensures ∙ ap (λ graph. graph.pairs) c.self.view_is) c.requires c.index-as_slice-place.is c.low.ensures c.high.ensures
