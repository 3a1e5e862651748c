use Rattle.std.proofs.Common.{◌≡◌, ◌≤◌, ◌+◌, ◌-◌, ◌^◌, map, min, drop}
use Rattle.source_machine.specs.Machines.{equation_of}
use Rattle.source_machine.specs.Fitting.{size_of_equations}
use Rattle.source_machine.proofs.machines.RawMachine.size.Given as goal

-- the size so far and that of the equations left
abbrev pub invariant-loop-equation : goal.invariant-loop-equation
invariant-loop-equation l =
    (l.size ≤ 2 ^ 64 - 1) × (min (l.size + size_of_equations (map equation_of (drop l.equation-index l.self.equations.items))) (2 ^ 64 - 1) ≡ min
    (size_of_equations (map equation_of l.self.equations.items)) (2 ^ 64 - 1))
