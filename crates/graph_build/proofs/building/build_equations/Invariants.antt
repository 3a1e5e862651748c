use Rattle.source_machine.specs.Machines.{machine_of}
use Rattle.graph_build.specs.Sizes.{AreEquationsSoFar}
use Rattle.graph_build.proofs.building.build_equations.Given as goal

abbrev pub invariant-loop-number : goal.invariant-loop-number
invariant-loop-number l = AreEquationsSoFar (machine_of l.raw) l.order l.number-index l.graph l.literals
