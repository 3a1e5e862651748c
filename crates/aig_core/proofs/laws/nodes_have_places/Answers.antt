use Rattle.aig_core.proofs.NodePlaces.{node_zero_is_constant, inputs_follow, latches_follow, conjunctions_are_last, nodes_are_counted}
use Rattle.aig_core.proofs.laws.nodes_have_places.Goals as goal

pub returns : goal.returns
returns c = record {
  constant = node_zero_is_constant;
  inputs = inputs_follow;
  latches = latches_follow;
  conjunctions = conjunctions_are_last;
  count = nodes_are_counted;
}
