-- A back leaves the state lines.
use Rattle.std.proofs.Common.{sym, subst}
use Rattle.cell_netlist.specs.Netlists.{PlainNetlist}
use Rattle.cell_netlist.specs.States.{IsAboveStates}
use Rattle.rail_mapper.specs.Drafts.{PlainDraft}
use Rattle.rail_mapper.proofs.drafts.Draft.put_back.Goals as goal

pub name_state-requires-clause-above : goal.name_state-requires-clause-above
name_state-requires-clause-above c =
    subst (λ (net : PlainNetlist). IsAboveStates c.args.latch net.states) (sym c.in_ok-half.ensures.added)
    (subst (λ (d : PlainDraft). IsAboveStates c.args.latch d.net.states) (sym c.self.view_is) c.requires.above)
