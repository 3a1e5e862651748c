use Rattle.std.proofs.Common.{arith, length, ap, List, ℕ}
use Rattle.dependency_order.proofs.Cuts.{lists_count}
use Rattle.dependency_order.proofs.lists.Lists.get.Goals as goal

pub piece-requires-clause-number : goal.piece-requires-clause-number
piece-requires-clause-number c =
    omega (arith, c.requires.number, lists_count 0 c.args.self.now.ends.items c.args.self.now.values.items, ap (λ (l : List ℕ). length l) c.deref-2.ensures.value)
