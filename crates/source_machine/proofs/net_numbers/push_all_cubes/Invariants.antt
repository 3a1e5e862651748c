use Rattle.std.proofs.Common.{◌≡◌, ◌++◌, take}
use Rattle.std.specs.List.{flat_map}
use Rattle.source_machine.specs.Machines.{equation_of}
use Rattle.source_machine.specs.Grounding.{cube_nets}
use Rattle.source_machine.specs.declared.machines.Equation.{Equation}
use Rattle.source_machine.proofs.net_numbers.push_all_cubes.Given as goal

-- the nets before, and those of the equations so far
abbrev pub invariant-loop-equation : goal.invariant-loop-equation
invariant-loop-equation l =
    l.nets.items ≡ l.fn.nets.items ++ flat_map (λ (equation : Equation). cube_nets (equation_of equation)) (take l.equation-index l.equations)
