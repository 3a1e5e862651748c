-- The latches so far.
use Rattle.std.proofs.Common.{◌≡◌}
use Rattle.source_machine.specs.Machines.{machine_of}
use Rattle.workload_circuits.specs.Counters.{with_latches, counter_latches}
use Rattle.workload_circuits.proofs.counters.add_latches.Given as goal

abbrev pub invariant-loop-bit : goal.invariant-loop-bit
invariant-loop-bit l =
    machine_of l.raw ≡ with_latches (machine_of l.fn.raw) (counter_latches l.fn.bits l.bit)
