use Rattle.std.proofs.Common.{◌≡◌, ◌++◌, map, take}
use Rattle.source_machine.specs.declared.machines.Equation.{Equation}
use Rattle.source_machine.proofs.net_numbers.push_equations.Given as goal

-- the nets before, and those of the items so far
abbrev pub invariant-loop-equation : goal.invariant-loop-equation
invariant-loop-equation l =
    l.nets.items ≡ l.fn.nets.items ++ map (λ (equation : Equation). equation.net.number) (take l.equation-index l.equations)
