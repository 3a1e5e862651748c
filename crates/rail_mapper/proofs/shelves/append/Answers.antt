use Rattle.std.proofs.Common.{List, length, arith, ap, ◌∷◌, []}
use Rattle.std.proofs.lemmas.List.{length-append}
use Rattle.pulse_ids.specs.Ids.{WireId}
use Rattle.rail_mapper.specs.Shelves.{numbers_of}
use Rattle.rail_mapper.proofs.ShelfLemmas.{one_added}
use Rattle.rail_mapper.proofs.shelves.append.Goals as goal

pub loop-k-preserved : goal.loop-k-preserved
loop-k-preserved c = (
  one_added c.loop-k.wires.items c.leaf.result c.push.new.self.items (numbers_of c.args.wires.now.items) c.args.leaves.now c.loop-k.k c.loop-k.invariant.0 c.leaf.ensures c.in_ok-push.ensures.items,
  omega (arith, c.loop-k.invariant.1, ap (λ (l : List WireId). length l) c.in_ok-push.ensures.items, length-append c.loop-k.wires.items (c.leaf.result ∷ [])),
)
