use Rattle.std.proofs.Common.{arith}
use Rattle.std.proofs.lemmas.Result.{on_ok_weaker, on_err_weaker}
use Rattle.splitter_trees.proofs.SpreadLemmas.{one_leaf, two_branches, gains_one, gains_twice, gains_branch}
use Rattle.splitter_trees.proofs.spreading.+grow.Goals as goal

pub returns-then-branch-eq1-clause-grown : goal.returns-then-branch-eq1-clause-grown
returns-then-branch-eq1-clause-grown t c =
    on_ok_weaker c.push.result (one_leaf c.args.net.now c.args.leaves.now c.push.new.self c.args.branch.from.number c.args.branch.readers c.if-branch-eq1.true) c.push.ensures

pub returns-clause-grown : goal.returns-clause-grown
returns-clause-grown t c =
    on_ok_weaker c.grow-2.result
    (two_branches c.args.net.now c.fork.new.net c.grow.new.net c.grow-2.new.net c.args.leaves.now c.grow.new.leaves c.grow-2.new.leaves c.args.branch.from
    c.in_ok-first.first.from.number c.in_ok-first.second.from.number c.in_ok-first.first.readers c.in_ok-first.second.readers c.args.branch.readers
    (omega arith) c.in_ok-first.ensures.added c.in_ok-first.ensures.wires
    c.in_ok-first.ensures.left.0 c.in_ok-first.ensures.left.1 c.in_ok-first.ensures.right.0 c.in_ok-first.ensures.right.1 c.in_ok-grow.ensures.grown)
    c.grow-2.ensures.grown

pub returns-clause-refused : goal.returns-clause-refused
returns-clause-refused t c =
    on_err_weaker c.grow-2.result
    (gains_twice c.args.net.now c.grow.new.net c.grow-2.new.net
    (gains_twice c.args.net.now c.fork.new.net c.grow.new.net (gains_one c.args.net.now c.fork.new.net _ _ _ c.in_ok-first.ensures.added)
    (gains_branch _ _ _ _ _ _ c.in_ok-grow.ensures.grown)))
    c.grow-2.ensures.refused
