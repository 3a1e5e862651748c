-- The report on the netlist of an input that was checked.
use Rattle.xsfq_cli.proofs.SoundInputs.{is_checked}
use Rattle.xsfq_cli.proofs.reporting.MakeReportCommand.prepare.Goals as goal

pub returns : goal.returns
returns g c =
    let read = c.in_ok-net.ensures in
    let checked = is_checked c.every_order.ensures.rails c.texts_are_read.ensures.only read.0 c.in_ok-net.net read.2
    c.reported.ensures.netlist in (
      read.0,
      read.1,
      λ text ending told. (
        c.in_ok-net.net,
        record { checked = checked; told = record { report = c.in_ok-told.told; reports = c.in_ok-told.ensures.report; says = told.0 } },
        told.1,
      ),
    )
