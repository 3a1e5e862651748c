use Rattle.aig_core.proofs.NodePlaces.{conjunctions_are_pairs}
use Rattle.aig_core.proofs.NodeBits.{nodes_have_their_bits}
use Rattle.aig_core.proofs.laws.nodes_have_values.Goals as goal

pub returns : goal.returns
returns c = record { pairs = conjunctions_are_pairs; bits = nodes_have_their_bits }
