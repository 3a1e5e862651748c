-- The netlist of a machine by the laws of the layers below.
use Rattle.std.proofs.Common.{subst}
use Rattle.cell_netlist.specs.Netlists.{PlainNetlist, IsNetlist}
use Rattle.xsfq_cli.proofs.CompiledSources.{mapped_is_net_of}
use Rattle.xsfq_cli.proofs.compiling.netlist_of.Goals as goal

pub returns-clause-net : goal.returns-clause-net
returns-clause-net c =
    mapped_is_net_of c.every_order.ensures.rails c.every_order.ensures.bits c.texts_are_read.ensures.read _ _ _ _ _ _ c.raw.ensures.fits c.in_ok-net.ensures.mapped c.in_ok-net.ensures.few
    (subst (λ (net : PlainNetlist). IsNetlist net) c.net.ensures.net c.wires.ensures.netlist)
