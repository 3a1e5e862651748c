use Rattle.cell_netlist.specs.Asked.{signs_of}
use Rattle.rail_mapper.proofs.LineSteps.{cells_on, puts_cells}
use Rattle.rail_mapper.proofs.OutputStageLemmas.{outputs_ready, outputs_one}
use Rattle.rail_mapper.proofs.output_loops.add_outputs.Goals as goal

pub put_outputs-requires : goal.put_outputs-requires
put_outputs-requires c =
    outputs_ready c.args.circuit.now.built.now c.args.circuit.now.ask c.loop-port.port c.output.result c.output.ensures.literal c.outputs-port-end.ensures.within
    c.loop-port.draft c.loop-port.invariant.0

pub loop-port-preserved : goal.loop-port-preserved
loop-port-preserved c = (
  outputs_one c.args.circuit.now.built.now c.args.circuit.now.ask c.loop-port.port c.output.result c.output.ensures.literal c.outputs-port-end.ensures.within
      c.loop-port.draft c.put_outputs.new.self c.loop-port.invariant.0 c.in_ok-put_outputs.ensures,
  cells_on c.args.draft.now c.loop-port.draft c.put_outputs.new.self c.loop-port.invariant.1
      (puts_cells c.output.result c.loop-port.port (signs_of c.args.circuit.now.ask) c.loop-port.draft c.put_outputs.new.self c.in_ok-put_outputs.ensures),
)
