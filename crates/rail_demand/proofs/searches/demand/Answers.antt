use Rattle.std.proofs.Common.{sym, ◌∙◌, ap, subst}
use Rattle.aig_core.specs.Graphs.{count_of}
use Rattle.rail_demand.specs.Demands.{IsDemand}
use Rattle.rail_demand.proofs.FoundRails.{begins}
use Rattle.rail_demand.proofs.ClosedRails.{is_demand, outputs_stay, none_found}
use Rattle.rail_demand.proofs.searches.demand.Goals as goal

pub find_outputs-requires : goal.find_outputs-requires
find_outputs-requires c =
    begins c.args.built.now c.in_ok-search.search c.len.result
    (c.len.ensures.count ∙ ap count_of c.graph.ensures.graph) c.in_ok-search.ensures.demand c.in_ok-search.ensures.found c.in_ok-search.ensures.room

pub returns : goal.returns
returns c =
    let outputs = outputs_stay c.args.built.now c.args.ask c.find_outputs.new.self c.spread.new.self _ c.spread.ensures.steps c.find_outputs.ensures.outputs in
    let needed = c.spread.ensures.needed c.args.ask (c.find_outputs.ensures.needed (none_found c.args.built.now c.args.ask c.in_ok-search.search c.in_ok-search.ensures.found)) in
    subst (IsDemand c.args.built.now c.args.ask) (sym c.into_demand.ensures)
    (is_demand c.args.built.now c.args.ask c.spread.new.self c.spread.ensures.steps.stage outputs c.spread.ensures.closed needed)
