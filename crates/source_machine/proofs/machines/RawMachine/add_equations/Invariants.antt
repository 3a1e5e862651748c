use Rattle.std.proofs.Common.{◌≡◌}
use Rattle.dependency_order.specs.Dependencies.{first_items}
use Rattle.source_machine.specs.Machines.{machine_of}
use Rattle.source_machine.specs.Dependencies.{dependencies_of}
use Rattle.source_machine.proofs.machines.RawMachine.add_equations.Given as goal

-- the equations so far are added
abbrev pub invariant-loop-equation : goal.invariant-loop-equation
invariant-loop-equation l = l.dependencies ≡ first_items (dependencies_of (machine_of l.self)) l.equation-index
