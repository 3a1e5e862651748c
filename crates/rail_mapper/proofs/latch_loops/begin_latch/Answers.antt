use Rattle.std.proofs.Common.{◌≡◌, ◌+◌, ◌∙◌, ap, arith}
use Rattle.pulse_ids.specs.Ids.{NodeId, NodeLit}
use Rattle.aig_core.specs.Graphs.{PlainGraph}
use Rattle.rail_mapper.specs.Stages.{BeginsLatch}
use Rattle.rail_mapper.proofs.LatchStageLemmas.{states_below}
use Rattle.rail_mapper.proofs.LatchTurns.{begun_rails, back_stands}
use Rattle.rail_mapper.proofs.LineSteps.{backs_lines}
use Rattle.rail_mapper.proofs.Results.{on_ok}
use Rattle.rail_mapper.proofs.latch_loops.begin_latch.Goals as goal

pub begin_latch-requires-clause-limit : goal.begin_latch-requires-clause-limit
begin_latch-requires-clause-limit c = omega (arith, c.requires.latch, c.graph.ensures.within.kept.latches_fit)

pub begin_latch-requires-clause-above : goal.begin_latch-requires-clause-above
begin_latch-requires-clause-above c = states_below c.args.circuit.now.built.now c.args.circuit.now.demand.now c.args.circuit.now.ask c.args.latch c.args.draft.now c.requires.backs

pub returns-clause-backs : goal.returns-clause-backs
returns-clause-backs c =
    let built = c.args.circuit.now.built.now in
    let node : c.number-node.result ≡ 1 + built.graph.inputs + c.args.latch =
    c.number-node.ensures ∙ ap (λ (n : NodeId). n.number) c.node.ensures ∙ ap (λ (l : NodeLit). l.id.number) c.latch.ensures.literal
    ∙ ap (λ (g : PlainGraph). 1 + g.inputs + c.args.latch) c.graph-2.ensures.graph in
    on_ok c.begin_latch.result _ _
    (λ (begins : BeginsLatch c.args.latch c.init-init.result c.rail_of-pos.result c.rail_of-neg.result c.args.draft.now c.begin_latch.new.self).
    back_stands built c.args.circuit.now.demand.now c.args.circuit.now.ask c.requires.plan c.nodes_have_places.ensures.latches c.args.latch c.number-node.result c.init-init.result
    c.args.draft.now c.begin_latch.new.self c.requires.latch node
    c.init-init.ensures c.requires.backs
    (begun_rails c.args.latch c.number-node.result c.rail_of-pos.result c.rail_of-neg.result c.init-init.result c.args.draft.now c.begin_latch.new.self c.rail_of-pos.ensures c.rail_of-neg.ensures
    begins))
    c.begin_latch.ensures

pub returns-clause-lines : goal.returns-clause-lines
returns-clause-lines c =
    on_ok c.begin_latch.result _ _
    (λ (begins : BeginsLatch c.args.latch c.init-init.result c.rail_of-pos.result c.rail_of-neg.result c.args.draft.now c.begin_latch.new.self) first lines.
    backs_lines c.args.latch c.init-init.result c.rail_of-pos.result c.rail_of-neg.result first c.args.draft.now c.begin_latch.new.self
    (λ e. absurd (omega (arith, e, c.rail_of-pos.ensures, c.rail_of-neg.ensures))) lines begins)
    c.begin_latch.ensures
