-- The netlist of an input that was checked.
use Rattle.std.proofs.Common.{subst}
use Rattle.cell_netlist.specs.Netlists.{PlainNetlist, IsNetlist}
use Rattle.xsfq_cli.proofs.SoundInputs.{is_checked}
use Rattle.xsfq_cli.proofs.checking.CheckCommand.prepare.Goals as goal

pub returns : goal.returns
returns g c =
    let read = c.in_ok-net.ensures in
    let checked = is_checked c.every_order.ensures.rails c.texts_are_read.ensures.only read.0 c.in_ok-net.net read.2
    (subst (λ (net : PlainNetlist). IsNetlist net) c.net.ensures.net c.wires.ensures.netlist) in
    (read.0, read.1, λ text ending told. (c.in_ok-net.net, checked, told.0, told.1))
