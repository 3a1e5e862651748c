use Rattle.std.proofs.Common.{◌<◌, sym, subst}
use Rattle.cell_netlist.specs.Names.{IsAboveAll}
use Rattle.cell_netlist.specs.Netlists.{PlainNetlist}
use Rattle.cell_netlist.proofs.NetlistLemmas.{kept_with_output_name}
use Rattle.cell_netlist.proofs.netlists.Netlist.name_output.Goals as goal

pub invariant_of-self-2 : goal.invariant_of-self-2
invariant_of-self-2 c =
    let range = subst (λ (net : PlainNetlist). c.args.port < net.outputs) (sym c.self.view_is) c.requires.range in
    let above = subst (λ (net : PlainNetlist). IsAboveAll c.args.port net.output_names) (sym c.self.view_is) c.requires.above in
    rw c.in_ok-push.ensures.items
    (kept_with_output_name _ _ c.args.port c.args.name c.self.invariant range above c.requires.name)
