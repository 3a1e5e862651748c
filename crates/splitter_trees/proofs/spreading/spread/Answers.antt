use Rattle.splitter_trees.proofs.SpreadLemmas.{whole_tree}
use Rattle.splitter_trees.proofs.spreading.spread.Goals as goal

pub returns-clause-spread : goal.returns-clause-spread
returns-clause-spread c =
    whole_tree c.args.net.now c.grow.new.net c.in_ok-leaves.leaves c.grow.new.leaves c.args.from.number c.args.readers c.requires.from c.requires.readers
    c.in_ok-leaves.ensures c.in_ok-grow.ensures.grown
