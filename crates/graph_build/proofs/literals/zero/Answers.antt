use Rattle.std.proofs.Common.{refl}
use Rattle.aig_core.specs.declared.nodes.Node.TheVariants.{False}
use Rattle.graph_build.proofs.literals.zero.Goals as goal

pub returns-clause-value : goal.returns-clause-value
returns-clause-value c state vector = c.nodes_have_values.ensures.bits c.args.graph.now c.len.ensures.kept.tidy state vector 0 False refl
