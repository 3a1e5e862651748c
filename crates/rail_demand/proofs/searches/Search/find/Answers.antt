use Rattle.std.proofs.Common.{◌<◌, sym, subst, ◌∙◌, arith, rules}
use Rattle.rail_demand.specs.Demands.{nodes_in}
use Rattle.rail_demand.specs.Searching.{Stage, HasRoom}
use Rattle.rail_demand.proofs.DemandBits.{one_left_less}
use Rattle.rail_demand.proofs.FoundRails.{finds_room}
use Rattle.rail_demand.proofs.searches.Search.find.Goals as goal

pub push_reserved-requires : goal.push_reserved-requires
push_reserved-requires c =
    let room = subst HasRoom (sym c.self.view_is) c.requires.room in
    let inside : c.args.rail.node.number < nodes_in c.self.inside.demand = subst (λ (s : Stage). c.args.rail.node.number < nodes_in s.demand) (sym c.self.view_is) c.requires.inside in
    omega (arith, room.few, one_left_less c.self.inside.demand c.args.rail.node.number c.args.rail.sign room.paired inside (sym c.needs.ensures ∙ c.if-needs.false))

pub returns-clause-room : goal.returns-clause-room
returns-clause-room c = finds_room c.args.self.now _ c.args.rail c.requires.room c.requires.inside (search rules)
