use Rattle.std.proofs.Common.{◌+◌, ◌*◌, ◌-◌, ◌∙◌, [], ℕ, List, map, subst, arith}
use Rattle.cell_netlist.specs.declared.kinds.Gate.{Gate}
use Rattle.rail_mapper.specs.Cells.{needed_signs, gates_from}
use Rattle.rail_mapper.specs.Lines.{AddsLines}
use Rattle.rail_mapper.specs.Stages.{IsStage}
use Rattle.rail_mapper.specs.Tracks.{sign_gate}
use Rattle.rail_mapper.proofs.LineSteps.{lines_on}
use Rattle.rail_mapper.proofs.NodeTurns.{gates_next}
use Rattle.rail_mapper.proofs.gates.map_gates.Goals as goal

pub loop-number-preserved : goal.loop-number-preserved
loop-number-preserved c =
    let demand = c.args.circuit.now.demand.now in
    let stage = subst (λ (k : ℕ). IsStage c.args.circuit.now.built.now demand c.args.circuit.now.ask (2 * (k + 1)) c.map_node.new.draft) c.new.ensures c.in_ok-map_node.ensures.stage in
    let lines = subst (λ (k : ℕ). AddsLines (map sign_gate (needed_signs demand k)) [] c.loop-number.draft c.map_node.new.draft) c.new.ensures c.in_ok-map_node.ensures.lines in
    let all = lines_on (gates_from demand c.args.first (c.loop-number.number - c.args.first))
    (map sign_gate (needed_signs demand c.loop-number.number)) [] [] c.args.draft.now c.loop-number.draft c.map_node.new.draft c.loop-number.invariant.1 lines in (
      stage,
      subst (λ (l : List Gate). AddsLines l [] c.args.draft.now c.map_node.new.draft) (gates_next demand c.args.first c.loop-number.number c.loop-number.invariant.3) all,
      c.in_ok-map_node.ensures.pending ∙ c.loop-number.invariant.2,
      omega (arith, c.loop-number.invariant.3),
    )
