use Rattle.std.proofs.Common.{arith}
use Rattle.rail_demand.proofs.ExpandedRails.{asks_outputs}
use Rattle.rail_demand.proofs.ClosedRails.{outputs_more}
use Rattle.rail_demand.proofs.searches.Search.find_outputs.Goals as goal

pub find_asked-requires-clause-room : goal.find_asked-requires-clause-room
find_asked-requires-clause-room c = c.loop-port.invariant.stage.roomy

pub find_asked-requires-clause-inside : goal.find_asked-requires-clause-inside
find_asked-requires-clause-inside c =
    omega (arith, c.output.ensures.within, c.loop-port.invariant.stage.nodes)

pub loop-port-preserved : goal.loop-port-preserved
loop-port-preserved c =
    let asks = asks_outputs c.args.built.now c.args.ask c.loop-port.port c.output.result c.loop-port.self c.find_asked.new.self c.loop-port.invariant.stage
    c.output.ensures.literal c.output.ensures.within c.find_asked.ensures in
    record {
      stage = asks.steps.stage;
      outputs = outputs_more c.args.built.now c.args.ask c.loop-port.self c.find_asked.new.self c.loop-port.port c.output.result c.output.ensures.literal asks.steps
          asks.found c.loop-port.invariant.outputs;
      needed = λ all. asks.needed (c.loop-port.invariant.needed all);
    }
