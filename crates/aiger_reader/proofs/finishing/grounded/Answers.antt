-- The fault of a machine.
use Rattle.std.proofs.Common.{refl}
use Rattle.source_machine.specs.Machines.{machine_of}
use Rattle.aiger_reader.proofs.finishing.grounded.Goals as goal

pub returns-in-Ok-machine_cause-clause-err : goal.returns-in-Ok-machine_cause-clause-err
returns-in-Ok-machine_cause-clause-err c =
    rw c.fault_at.ensures (refl, c.in-Ok-machine_cause.ensures (machine_of c.args.raw) c.in-Err.ensures.refused)
