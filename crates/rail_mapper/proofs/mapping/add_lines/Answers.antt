use Rattle.std.proofs.Common.{arith}
use Rattle.rail_mapper.proofs.OutputStageLemmas.{outputs_begin}
use Rattle.rail_mapper.proofs.Planned.{demand_plans}
use Rattle.rail_mapper.proofs.StageTurns.{lines_stand}
use Rattle.rail_mapper.proofs.mapping.add_lines.Goals as goal

pub begin_lines-requires-clause-plan : goal.begin_lines-requires-clause-plan
begin_lines-requires-clause-plan c =
    demand_plans c.args.circuit.now.built.now c.args.circuit.now.demand.now c.args.circuit.now.ask c.latches-latches.ensures.within c.requires.demand c.demands_are_closed.ensures.inside
    c.demands_are_closed.ensures.outputs
    c.demands_are_closed.ensures.closed c.nodes_have_places.ensures.latches

pub add_cells-requires-clause-plan : goal.add_cells-requires-clause-plan
add_cells-requires-clause-plan c =
    demand_plans c.args.circuit.now.built.now c.args.circuit.now.demand.now c.args.circuit.now.ask c.latches-latches.ensures.within c.requires.demand c.demands_are_closed.ensures.inside
    c.demands_are_closed.ensures.outputs
    c.demands_are_closed.ensures.closed c.nodes_have_places.ensures.latches

pub add_cells-requires-clause-first : goal.add_cells-requires-clause-first
add_cells-requires-clause-first c = omega (arith, c.requires.inputs, c.latches-latches.ensures.count, c.latches-latches.ensures.within.one_next_each)

pub add_outputs-requires : goal.add_outputs-requires
add_outputs-requires c =
    outputs_begin c.args.circuit.now.built.now c.args.circuit.now.ask c.add_cells.new.draft c.in_ok-add_cells.ensures.fronts c.in_ok-add_cells.ensures.no_pending c.in_ok-add_cells.ensures.no_outputs

pub returns : goal.returns
returns c =
    lines_stand c.args.circuit.now.built.now c.args.circuit.now.demand.now c.args.circuit.now.ask c.add_cells.new.draft c.add_outputs.new.draft c.in_ok-add_cells.ensures
    c.in_ok-add_outputs.ensures.outputs c.in_ok-add_outputs.ensures.cells
