use Rattle.std.proofs.Common.{All, ◌<◌, length, map, sym, subst}
use Rattle.source_machine.specs.Machines.{literal_of}
use Rattle.source_machine.specs.Runs.{cube_value}
use Rattle.graph_build.specs.Literals.{net_value}
use Rattle.graph_build.specs.Equations.{IsLiteralOf}
use Rattle.graph_build.proofs.CubeSteps.{cubes_go_on}
use Rattle.graph_build.proofs.equations.cubes_literal.Goals as goal

pub loop-cube-preserved : goal.loop-cube-preserved
loop-cube-preserved c =
    cubes_go_on c.args.literals.now c.args.cubes.now c.args.graph.now c.loop-cube.graph c.cube_literal.new.graph c.either.new.graph c.loop-cube.cube-index
    c.loop-cube.disjunction c.in_ok-conjunction.conjunction c.in_ok-disjunction.disjunction c.cube-item.result c.loop-cube-test.true c.cube-item.is c.requires.within
    (subst (λ cube. All (λ literal. literal.id.number < length c.args.literals.now) cube) (sym c.cube-item.is)
    (c.requires.fit c.loop-cube.cube-index c.cube-item.result c.loop-cube-test.true)) c.loop-cube.invariant
    (subst (λ cube. IsLiteralOf (length cube) c.loop-cube.graph c.cube_literal.new.graph
    (λ state vector. cube_value (net_value c.loop-cube.graph c.args.literals.now state vector) (map literal_of cube)) c.in_ok-conjunction.conjunction) c.literals.ensures
    c.in_ok-conjunction.ensures) c.in_ok-disjunction.ensures
