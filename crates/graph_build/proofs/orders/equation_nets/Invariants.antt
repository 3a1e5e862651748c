use Rattle.std.proofs.Common.{◌≡◌, map, take}
use Rattle.source_machine.specs.declared.machines.Equation.{Equation}
use Rattle.graph_build.proofs.orders.equation_nets.Given as goal

-- the nets so far
abbrev pub invariant-loop-equation : goal.invariant-loop-equation
invariant-loop-equation l = l.nets.items ≡ map (λ (equation : Equation). equation.net.number) (take l.equation-index l.equations)
