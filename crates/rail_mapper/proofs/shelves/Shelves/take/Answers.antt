use Rattle.std.proofs.Common.{arith}
use Rattle.rail_mapper.proofs.ShelfLemmas.{begins, taken_in_table, taken_first}
use Rattle.rail_mapper.proofs.shelves.Shelves.take.Goals as goal

pub without_first-requires : goal.without_first-requires
without_first-requires c =
    let b = (begins c.self.inside.wires.items c.self.inside.shelves.items c.args.rail c.index-shelf.result.now c.args.self.now c.self.view_is c.requires c.index-shelf.ensures).0 in
    omega (arith, b)

pub invariant_of-self : goal.invariant_of-self
invariant_of-self c = rw c.without_first.ensures
    (taken_in_table c.self.inside.wires.items c.self.inside.shelves.items c.args.rail c.index-shelf.result.now c.args.self.now c.self.view_is c.requires c.index-shelf.ensures c.self.invariant)

pub returns : goal.returns
returns c = rw c.without_first.ensures
    (taken_first c.self.inside.wires.items c.self.inside.shelves.items c.args.rail c.index-shelf.result.now c.args.self.now c.self.view_is c.requires c.index-shelf.ensures
    c.index-wire.result.now c.index-wire.ensures)
