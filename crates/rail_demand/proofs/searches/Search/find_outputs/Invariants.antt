use Rattle.rail_demand.specs.Searching.{IsStage, AreNeeded, HasOutputs}
use Rattle.rail_demand.proofs.searches.Search.find_outputs.Given as goal

-- the outputs so far have their rails
abbrev pub invariant-loop-port : goal.invariant-loop-port
invariant-loop-port l = record {
  stage : IsStage l.built l.self;
  outputs : HasOutputs l.built l.ask l.self.demand l.port;
  needed : AreNeeded l.built l.ask l.fn.self.found → AreNeeded l.built l.ask l.self.found;
}
