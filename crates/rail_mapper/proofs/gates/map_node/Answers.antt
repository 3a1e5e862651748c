use Rattle.std.proofs.Common.{◌≡◌, ◌+◌, ◌*◌, ◌∙◌, subst, arith, ℕ}
use Rattle.pulse_ids.specs.declared.literals.Sign.TheVariants.{Pos, Neg}
use Rattle.rail_mapper.specs.Stages.{MapsRail, IsStage}
use Rattle.rail_mapper.proofs.NodeTurns.{rail_stage, rail_lines, rail_pending, node_lines}
use Rattle.rail_mapper.proofs.Readiness.{stage_ready}
use Rattle.rail_mapper.proofs.Results.{on_ok}
use Rattle.rail_mapper.proofs.gates.map_node.Goals as goal

pub map_rail-requires-clause-ready : goal.map_rail-requires-clause-ready
map_rail-requires-clause-ready c =
    stage_ready c.args.circuit.now.built.now c.args.circuit.now.demand.now c.args.circuit.now.ask c.args.node.number Pos c.args.draft.now c.nodes_have_places.ensures.conjunctions
    c.graph.ensures.within.kept c.requires.plan c.requires.first c.requires.inside c.requires.stage

pub map_rail-requires-2-clause-ready : goal.map_rail-requires-2-clause-ready
map_rail-requires-2-clause-ready c =
    let first = rail_stage c.args.circuit.now.built.now c.args.circuit.now.demand.now c.args.circuit.now.ask c.requires.plan c.args.node.number c.requires.inside Pos c.args.draft.now
    c.map_rail.new.draft c.requires.stage c.in_ok-map_rail.ensures in
    stage_ready c.args.circuit.now.built.now c.args.circuit.now.demand.now c.args.circuit.now.ask c.args.node.number Neg c.map_rail.new.draft c.nodes_have_places.ensures.conjunctions
    c.graph.ensures.within.kept c.requires.plan c.requires.first c.requires.inside first

pub returns-clause-stage : goal.returns-clause-stage
returns-clause-stage c =
    let first = rail_stage c.args.circuit.now.built.now c.args.circuit.now.demand.now c.args.circuit.now.ask c.requires.plan c.args.node.number c.requires.inside Pos c.args.draft.now
    c.map_rail.new.draft c.requires.stage c.in_ok-map_rail.ensures in
    on_ok c.map_rail-2.result _ _
    (λ (maps : MapsRail c.args.circuit.now.built.now (2 * c.args.node.number + 1) c.map_rail.new.draft c.map_rail-2.new.draft).
    subst (λ (r : ℕ). IsStage c.args.circuit.now.built.now c.args.circuit.now.demand.now c.args.circuit.now.ask r c.map_rail-2.new.draft)
    (let z : 2 * c.args.node.number + 1 + 1 ≡ 2 * (c.args.node.number + 1) = omega arith in z)
    (rail_stage c.args.circuit.now.built.now c.args.circuit.now.demand.now c.args.circuit.now.ask c.requires.plan c.args.node.number c.requires.inside Neg c.map_rail.new.draft
    c.map_rail-2.new.draft first maps))
    c.map_rail-2.ensures

pub returns-clause-lines : goal.returns-clause-lines
returns-clause-lines c =
    let first = rail_stage c.args.circuit.now.built.now c.args.circuit.now.demand.now c.args.circuit.now.ask c.requires.plan c.args.node.number c.requires.inside Pos c.args.draft.now
    c.map_rail.new.draft c.requires.stage c.in_ok-map_rail.ensures in
    on_ok c.map_rail-2.result _ _
    (λ (maps : MapsRail c.args.circuit.now.built.now (2 * c.args.node.number + 1) c.map_rail.new.draft c.map_rail-2.new.draft).
    node_lines c.args.circuit.now.demand.now c.args.node.number c.args.draft.now c.map_rail.new.draft c.map_rail-2.new.draft
    (rail_lines c.args.circuit.now.built.now c.args.circuit.now.demand.now c.args.circuit.now.ask c.requires.plan c.args.node.number c.requires.inside Pos c.args.draft.now c.map_rail.new.draft
    c.requires.stage c.in_ok-map_rail.ensures)
    (rail_lines c.args.circuit.now.built.now c.args.circuit.now.demand.now c.args.circuit.now.ask c.requires.plan c.args.node.number c.requires.inside Neg c.map_rail.new.draft
    c.map_rail-2.new.draft first maps))
    c.map_rail-2.ensures

pub returns-clause-pending : goal.returns-clause-pending
returns-clause-pending c =
    let first = rail_stage c.args.circuit.now.built.now c.args.circuit.now.demand.now c.args.circuit.now.ask c.requires.plan c.args.node.number c.requires.inside Pos c.args.draft.now
    c.map_rail.new.draft c.requires.stage c.in_ok-map_rail.ensures in
    on_ok c.map_rail-2.result _ _
    (λ (maps : MapsRail c.args.circuit.now.built.now (2 * c.args.node.number + 1) c.map_rail.new.draft c.map_rail-2.new.draft).
    rail_pending c.args.circuit.now.built.now c.args.circuit.now.demand.now c.args.circuit.now.ask c.requires.plan c.args.node.number c.requires.inside Neg c.map_rail.new.draft
    c.map_rail-2.new.draft first maps
    ∙ rail_pending c.args.circuit.now.built.now c.args.circuit.now.demand.now c.args.circuit.now.ask c.requires.plan c.args.node.number c.requires.inside Pos c.args.draft.now c.map_rail.new.draft
    c.requires.stage c.in_ok-map_rail.ensures)
    c.map_rail-2.ensures
