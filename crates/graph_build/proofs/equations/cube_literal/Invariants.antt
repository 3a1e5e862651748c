use Rattle.graph_build.specs.Equations.{IsCubeSoFar}
use Rattle.graph_build.proofs.equations.cube_literal.Given as goal

abbrev pub invariant-loop-literal : goal.invariant-loop-literal
invariant-loop-literal l = IsCubeSoFar l.literals l.cube l.fn.graph l.literal-index l.graph l.conjunction
