use Rattle.graph_build.specs.Equations.{AreCubesSoFar}
use Rattle.graph_build.proofs.equations.cubes_literal.Given as goal

abbrev pub invariant-loop-cube : goal.invariant-loop-cube
invariant-loop-cube l = AreCubesSoFar l.literals l.cubes l.fn.graph l.cube-index l.graph l.disjunction
