use Rattle.std.proofs.Common.{length, arith}
use Rattle.rail_mapper.proofs.ShelfLemmas.{put_in_table, put_leaves}
use Rattle.rail_mapper.proofs.shelves.Shelves.put.Goals as goal

pub invariant_of-self-2 : goal.invariant_of-self-2
invariant_of-self-2 c =
    put_in_table (length c.self.inside.wires.items) (length c.append.new.wires.items) c.self.inside.shelves.items c.args.rail c.len-first.result c.len-end.result
    c.self.invariant c.append.ensures.more (omega (arith, c.len-end.ensures, c.append.new.wires.ok.0))

pub returns : goal.returns
returns c =
    put_leaves c.self.inside.wires.items c.append.new.wires.items c.self.inside.shelves.items c.args.rail c.len-first.result c.len-end.result c.args.leaves.now c.args.self.now
    c.self.invariant c.self.view_is c.in_ok-append.ensures.added (omega (arith, c.len-first.ensures, c.self.inside.wires.ok.0)) (omega (arith, c.len-end.ensures, c.append.new.wires.ok.0))
