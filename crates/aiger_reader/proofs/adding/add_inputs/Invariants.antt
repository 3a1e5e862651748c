-- The inputs so far, and those to come.
use Rattle.std.proofs.Common.{◌≡◌, ◌+◌, ◌-◌}
use Rattle.source_machine.specs.Machines.{machine_of}
use Rattle.aiger_reader.specs.Building.{with_inputs}
use Rattle.aiger_reader.proofs.adding.add_inputs.Given as goal

abbrev pub invariant-loop-input : goal.invariant-loop-input
invariant-loop-input l =
    with_inputs (machine_of l.raw) (l.input + 1) (l.inputs - l.input) ≡ with_inputs (machine_of l.fn.raw) 1 l.fn.inputs
