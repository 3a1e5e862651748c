-- The latch is above those of the lines so far.
use Rattle.std.proofs.Common.{sym, subst}
use Rattle.cell_netlist.specs.States.{IsAboveStates}
use Rattle.rail_mapper.specs.Drafts.{PlainDraft}
use Rattle.rail_mapper.proofs.drafts.Draft.name_state.Goals as goal

pub add_state-requires-clause-above : goal.add_state-requires-clause-above
add_state-requires-clause-above c = subst (λ (d : PlainDraft). IsAboveStates c.args.latch d.net.states) (sym c.self.view_is) c.requires.above
