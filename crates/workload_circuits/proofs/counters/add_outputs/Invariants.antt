-- The outputs so far.
use Rattle.std.proofs.Common.{◌≡◌}
use Rattle.source_machine.specs.Machines.{machine_of}
use Rattle.workload_circuits.specs.Counters.{with_outputs, counter_outputs}
use Rattle.workload_circuits.proofs.counters.add_outputs.Given as goal

abbrev pub invariant-loop-bit : goal.invariant-loop-bit
invariant-loop-bit l = machine_of l.raw ≡ with_outputs (machine_of l.fn.raw) (counter_outputs l.bit)
