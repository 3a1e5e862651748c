-- The equations of the bits so far.
use Rattle.std.proofs.Common.{◌≡◌}
use Rattle.source_machine.specs.Machines.{machine_of}
use Rattle.workload_circuits.specs.Counters.{with_equations, counter_equations}
use Rattle.workload_circuits.proofs.counters.add_equations.Given as goal

abbrev pub invariant-loop-bit : goal.invariant-loop-bit
invariant-loop-bit l =
    machine_of l.raw ≡ with_equations (machine_of l.fn.raw) (counter_equations l.fn.bits l.bit)
