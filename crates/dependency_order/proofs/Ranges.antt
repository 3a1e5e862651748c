-- Dependencies stay in range as they grow.
use Rattle.std.proofs.Common.{ℕ, ◌<◌, ◌^◌, List, [], ◌∷◌, length, arith, length-append}
use Rattle.std.proofs.lemmas.List.Elements.{All-push}
use Rattle.std.proofs.lemmas.List.Sums.{sum_by_push, get_or-le-sum_by}
use Rattle.dependency_order.specs.Dependencies.{PlainDependencies, AreBelow, AreInRange, StaysSmall, with_item, needs_of}

pub range_more : (d : PlainDependencies) (needs yields : List ℕ) → AreInRange d → AreBelow d.count needs → AreBelow d.count yields → StaysSmall d needs yields → AreInRange
    (with_item d needs yields)
range_more d needs yields range n y few = record {
  paired = omega (arith, length-append d.yields (yields ∷ []), length-append d.needs (needs ∷ []), range.paired);
  few_items = omega (arith, length-append d.needs (needs ∷ []), few.items);
  few_needs = omega (arith, sum_by_push length d.needs needs, few.more_needs);
  few_yields = omega (arith, sum_by_push length d.yields yields, few.more_yields);
  starts_fit = range.starts_fit;
  needs_fit = All-push (AreBelow d.count) d.needs needs range.needs_fit n;
  yields_fit = All-push (AreBelow d.count) d.yields yields range.yields_fit y;
}

-- one item needs fewer than 2^32 numbers
pub few_needs_at : (d : PlainDependencies) (item : ℕ) → AreInRange d → item < length d.needs → length (needs_of d item) < 2 ^ 32
few_needs_at d item range lt = omega (arith, range.few_needs, get_or-le-sum_by length d.needs item [] lt)
