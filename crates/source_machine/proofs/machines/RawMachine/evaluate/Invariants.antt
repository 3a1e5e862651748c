use Rattle.std.proofs.Common.{◌≡◌, List, [], Bool, length, take}
use Rattle.source_machine.specs.Machines.{machine_of}
use Rattle.source_machine.specs.Evaluating.{IsEvaluated}
use Rattle.source_machine.proofs.machines.RawMachine.evaluate.Given as goal

-- the nets of the equations so far have their values
abbrev pub invariant-loop-number : goal.invariant-loop-number
invariant-loop-number l = record {
  width : length l.bits ≡ length l.fn.bits;
  evaluated : (state vector : List Bool) → IsEvaluated (machine_of l.self) state vector [] l.fn.bits → IsEvaluated (machine_of l.self) state vector (take l.number-index l.order) l.bits;
}
