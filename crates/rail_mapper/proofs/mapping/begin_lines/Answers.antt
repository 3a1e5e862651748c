use Rattle.std.proofs.Common.{◌∙◌, ap}
use Rattle.cell_netlist.specs.Netlists.{PlainNetlist}
use Rattle.rail_mapper.proofs.InputStageLemmas.{const_one, const_ready}
use Rattle.rail_mapper.proofs.PortSteps.{constant_keeps}
use Rattle.rail_mapper.proofs.StageTurns.{inputs_stand}
use Rattle.rail_mapper.proofs.mapping.begin_lines.Goals as goal

pub add_constant-requires-clause-places : goal.add_constant-requires-clause-places
add_constant-requires-clause-places c =
    (const_ready c.args.circuit.now.built.now c.args.circuit.now.demand.now c.args.circuit.now.ask c.add_inputs.new.draft c.outputs.ensures.within.kept.inputs_fit c.in_ok-add_inputs.ensures).0

pub add_constant-requires-clause-counters : goal.add_constant-requires-clause-counters
add_constant-requires-clause-counters c =
    (const_ready c.args.circuit.now.built.now c.args.circuit.now.demand.now c.args.circuit.now.ask c.add_inputs.new.draft c.outputs.ensures.within.kept.inputs_fit c.in_ok-add_inputs.ensures).1

pub add_constant-requires-clause-room : goal.add_constant-requires-clause-room
add_constant-requires-clause-room c =
    (const_ready c.args.circuit.now.built.now c.args.circuit.now.demand.now c.args.circuit.now.ask c.add_inputs.new.draft c.outputs.ensures.within.kept.inputs_fit c.in_ok-add_inputs.ensures).2

pub grow_inputs-requires-clause-trees : goal.grow_inputs-requires-clause-trees
grow_inputs-requires-clause-trees c =
    const_one c.args.circuit.now.built.now c.args.circuit.now.demand.now c.args.circuit.now.ask c.add_inputs.new.draft c.add_constant.new.self c.outputs.ensures.within.kept.inputs_fit
    c.in_ok-add_inputs.ensures c.in_ok-add_constant.ensures

pub grow_inputs-requires-clause-inputs : goal.grow_inputs-requires-clause-inputs
grow_inputs-requires-clause-inputs c =
    (constant_keeps c.add_inputs.new.draft c.add_constant.new.self c.in_ok-add_constant.ensures).others.inputs ∙ ap (λ (n : PlainNetlist). n.inputs) c.in_ok-add_inputs.ensures.frame

pub returns : goal.returns
returns c =
    inputs_stand c.args.circuit.now.built.now c.args.circuit.now.demand.now c.args.circuit.now.ask c.requires.plan c.add_inputs.new.draft c.add_constant.new.self c.grow_inputs.new.draft
    c.in_ok-add_inputs.ensures c.in_ok-add_constant.ensures
    c.in_ok-grow_inputs.ensures.stage c.in_ok-grow_inputs.ensures.none c.in_ok-grow_inputs.ensures.lines
