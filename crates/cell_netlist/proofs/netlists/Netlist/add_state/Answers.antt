use Rattle.std.proofs.Common.{◌≡◌, sym, subst, arith}
use Rattle.cell_netlist.specs.declared.kinds.Version.TheVariants.{Two}
use Rattle.cell_netlist.specs.States.{IsAboveStates}
use Rattle.cell_netlist.specs.Netlists.{PlainNetlist}
use Rattle.cell_netlist.proofs.StateLemmas.{kept_with_state}
use Rattle.cell_netlist.proofs.netlists.Netlist.add_state.Goals as goal

pub invariant_of-self-2 : goal.invariant_of-self-2
invariant_of-self-2 c =
    let two = subst (λ (net : PlainNetlist). net.version ≡ Two) (sym c.self.view_is) c.requires.version in
    let above = subst (λ (net : PlainNetlist). IsAboveStates c.args.line.latch net.states) (sym c.self.view_is) c.requires.above in
    rw c.in_ok-push.ensures.items
    (kept_with_state _ _ c.args.line c.self.invariant two c.requires.limit above (omega arith))
