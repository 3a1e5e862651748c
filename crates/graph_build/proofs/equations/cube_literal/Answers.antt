use Rattle.graph_build.proofs.CubeSteps.{cube_begins, cube_goes_on}
use Rattle.graph_build.proofs.equations.cube_literal.Goals as goal

pub loop-literal-init : goal.loop-literal-init
loop-literal-init c = cube_begins c.args.literals.now c.args.cube.now c.args.graph.now c.one-conjunction.result c.one-conjunction.ensures.within c.one-conjunction.ensures.value

pub loop-literal-preserved : goal.loop-literal-preserved
loop-literal-preserved c =
    cube_goes_on c.args.literals.now c.args.cube.now c.args.graph.now c.loop-literal.graph c.and.new.self c.loop-literal.literal-index c.loop-literal.conjunction
    c.node_literal.result c.in_ok-conjunction.conjunction _ c.loop-literal-test.true c.requires.within
    (c.requires.fit c.loop-literal.literal-index _ c.loop-literal-test.true) c.node_literal.ensures c.loop-literal.invariant c.in_ok-conjunction.ensures.grows
    c.in_ok-conjunction.ensures.within c.in_ok-conjunction.ensures.value
