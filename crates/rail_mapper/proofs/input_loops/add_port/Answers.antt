use Rattle.std.proofs.Common.{◌+◌, ◌*◌, ◌-◌, ◌^◌, arith}
use Rattle.rail_mapper.specs.InputStages.{AddsInput}
use Rattle.pulse_ids.specs.declared.literals.Sign.TheVariants.{Neg}
use Rattle.rail_mapper.proofs.Rooms.{less_room}
use Rattle.rail_mapper.proofs.Results.{on_ok}
use Rattle.rail_mapper.proofs.Turns.{first_input, second_input}
use Rattle.rail_mapper.proofs.input_loops.add_port.Goals as goal

pub add_input-requires-2-clause-each : goal.add_input-requires-2-clause-each
add_input-requires-2-clause-each c =
    let f = first_input c.args.circuit.now.built.now c.args.circuit.now.demand.now c.args.circuit.now.ask c.args.port c.nodes_have_places.ensures.inputs c.graph.ensures.within c.requires.port
    c.args.draft.now c.add_input.new.self c.requires.inputs c.in_ok-add_input.ensures in
    f.each

pub add_input-requires-2-clause-room : goal.add_input-requires-2-clause-room
add_input-requires-2-clause-room c =
    let f = first_input c.args.circuit.now.built.now c.args.circuit.now.demand.now c.args.circuit.now.ask c.args.port c.nodes_have_places.ensures.inputs c.graph.ensures.within c.requires.port
    c.args.draft.now c.add_input.new.self c.requires.inputs c.in_ok-add_input.ensures in
    less_room c.add_input.new.self 1 (2 ^ 17 - (2 * c.args.port + 1)) (omega (arith, c.requires.port, c.graph.ensures.within.kept.inputs_fit)) f.room

pub returns : goal.returns
returns c =
    let f = first_input c.args.circuit.now.built.now c.args.circuit.now.demand.now c.args.circuit.now.ask c.args.port c.nodes_have_places.ensures.inputs c.graph.ensures.within c.requires.port
    c.args.draft.now c.add_input.new.self c.requires.inputs c.in_ok-add_input.ensures in
    on_ok c.add_input-2.result _ _
    (λ (adds : AddsInput c.args.port Neg c.add_input.new.self c.add_input-2.new.self).
    second_input c.args.circuit.now.built.now c.args.circuit.now.demand.now c.args.circuit.now.ask c.args.port c.nodes_have_places.ensures.inputs c.graph.ensures.within c.requires.port
    c.add_input.new.self c.add_input-2.new.self f adds)
    c.add_input-2.ensures
