use Rattle.splitter_trees.proofs.spreading.+grow.Given as goal

abbrev pub decreases-grow : goal.decreases-grow
decreases-grow l = l.branch.readers
