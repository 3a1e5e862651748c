use Rattle.std.proofs.Common.{◌∙◌, ap, not}
use Rattle.graph_build.proofs.LiteralValues.{flipped_value}
use Rattle.graph_build.proofs.literals.one.Goals as goal

pub returns-clause-value : goal.returns-clause-value
returns-clause-value c state vector =
    flipped_value c.args.graph.now state vector c.zero.result c.flip.result c.flip.ensures.id c.flip.ensures.negated ∙ ap not (c.zero.ensures.value state vector)
