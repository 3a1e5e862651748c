-- Nothing is read, and the work is done.
use Rattle.std.proofs.Common.{[], refl}
use Rattle.xsfq_cli.proofs.workloads.MakeWorkloadCommand.prepare.Goals as goal

pub returns : goal.returns
returns g c = (
  [],
  (record { left = refl; faults = refl }, refl),
  λ text ending told. (c.in_ok-work.work, c.in_ok-work.ensures.bits, c.in_ok-work.ensures.work, told.0, told.1),
)
