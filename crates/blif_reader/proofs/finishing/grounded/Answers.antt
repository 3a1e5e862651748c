-- The fault of a machine.
use Rattle.std.proofs.Common.{length, refl}
use Rattle.source_machine.specs.Machines.{machine_of}
use Rattle.blif_reader.proofs.MachineFaults.{names_net_of}
use Rattle.blif_reader.proofs.finishing.grounded.Goals as goal

pub machine_cause-requires : goal.machine_cause-requires
machine_cause-requires c =
    names_net_of (length c.args.nets.now) (machine_of c.args.raw) c.requires.fits c.requires.nets c.in-Err.grounding c.in-Err.ensures.refused

pub returns-in-Ok-machine_cause-clause-err : goal.returns-in-Ok-machine_cause-clause-err
returns-in-Ok-machine_cause-clause-err c =
    rw c.fault_at.ensures (refl, c.in-Ok-machine_cause.ensures (machine_of c.args.raw) c.in-Err.ensures.refused)
