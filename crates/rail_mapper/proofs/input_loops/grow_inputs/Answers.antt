use Rattle.std.proofs.Common.{[]}
use Rattle.rail_mapper.proofs.LineSteps.{lines_on}
use Rattle.rail_mapper.proofs.input_loops.grow_inputs.Goals as goal

pub loop-port-preserved : goal.loop-port-preserved
loop-port-preserved c = (
  c.in_ok-wire.ensures.trees,
  lines_on [] [] [] [] c.args.draft.now c.loop-port.draft c.grow_port.new.draft c.loop-port.invariant.1 c.in_ok-wire.ensures.lines,
)
