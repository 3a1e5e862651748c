use Rattle.std.proofs.Common.{◌<◌, length, arith}
use Rattle.rail_demand.proofs.FoundRails.{steps_then}
use Rattle.rail_demand.proofs.ClosedRails.{longer, closed_more}
use Rattle.rail_demand.proofs.searches.Search.spread.Goals as goal

pub expand-requires-clause-inside : goal.expand-requires-clause-inside
expand-requires-clause-inside c = c.loop-done.invariant.steps.stage.inside c.loop-done.done c.at-rail.result c.at-rail.ensures

pub loop-done-preserved : goal.loop-done-preserved
loop-done-preserved c =
    let low : c.loop-done.done < length c.loop-done.self.found = omega (arith, c.loop-done-test.true, c.len.ensures) in
    record {
      low = omega (arith, low, longer c.args.built.now c.loop-done.self c.expand.new.self c.expand.ensures.steps);
      steps = steps_then c.args.built.now c.args.self.now c.loop-done.self c.expand.new.self c.loop-done.invariant.steps c.expand.ensures.steps;
      closed = closed_more c.args.built.now c.loop-done.self c.expand.new.self c.loop-done.done c.at-rail.result low c.at-rail.ensures c.expand.ensures.steps
          c.expand.ensures.closed c.loop-done.invariant.closed;
      needed = λ ask all. c.expand.ensures.needed ask (c.loop-done.invariant.needed ask all c.loop-done.done c.at-rail.result c.at-rail.ensures) (c.loop-done.invariant.needed ask all);
    }

pub returns-clause-closed : goal.returns-clause-closed
returns-clause-closed c place rail low e =
    c.loop-done.invariant.closed place rail (omega (arith, low, c.loop-done.invariant.low, c.loop-done-test.false, c.len.ensures)) e
