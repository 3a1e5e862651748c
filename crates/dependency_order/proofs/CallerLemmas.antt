-- What users of an order may cite.
use Rattle.std.proofs.Common.{◌≡◌, ◌≢◌, ℕ, ◌+◌, ◌≤◌, ◌<◌, ◌⊎◌, inl, inr, List, [], length, get_or, false, ◌==◌, eqb, refl, sym, ◌∙◌, arith, Contains, count_by}
use Rattle.std.specs.List.{IsDistinct}
use Rattle.std.proofs.lemmas.List.Elements.{All-contains}
use Rattle.std.proofs.lemmas.Bool.{true≢false}
use Rattle.std.specs.Prelude.{slice_index}
use Rattle.std.proofs.lemmas.Bool.{eqb-false}
use Rattle.std.proofs.lemmas.List.{take_more, take_all, length-take-le}
use Rattle.std.proofs.lemmas.List.Sums.{sum_by_more_le}
use Rattle.std.proofs.lemmas.Map.Keys.{apart_from_distinct}
use Rattle.dependency_order.specs.Dependencies.{PlainDependencies, AreBelow, AreInRange, StaysSmall, with_item, first_items, needs_of, yields_of}
use Rattle.dependency_order.specs.Agendas.{AllowsLowest}
use Rattle.dependency_order.specs.Orders.{Reached, at_start, by_item, IsKnown, IsReady, IsOrder, PlainOrder, IsOrderOf}
use Rattle.dependency_order.proofs.Members.{same_or_not, lower_or_not, times_in-absent, times_in-distinct, in_or_not}
-- an item among the first of an order has a place there
pub use Rattle.dependency_order.proofs.Members.{place_in_take as earlier_place}

-- two places of one number in a list where each stands once are the same
pub one_place : (xs : List ℕ) (i j : ℕ) → IsDistinct eqb xs → i < length xs → j < length xs → slice_index xs i ≡ slice_index xs j → i ≡ j
one_place xs i j once p q e = go (same_or_not i j) (lower_or_not i j)
  where
    apart : (a b : ℕ) → a < b → b < length xs → slice_index xs a ≡ slice_index xs b → ⊥
    apart a b low lt same = eqb-false _ _ (apart_from_distinct eqb xs a b 0 once low lt) same

    go : (i ≡ j) ⊎ (i ≢ j) → (i < j) ⊎ (j ≤ i) → i ≡ j
    go (inl s) r = s
    go (inr ne) (inl low) = absurd (apart i j low q e)
    go (inr ne) (inr high) = absurd (apart j i (omega arith) p (sym e))

-- a number stands once at most where each number stands once
pub once_counted : (xs : List ℕ) (n : ℕ) → IsDistinct eqb xs → count_by (λ x. x == n) xs ≤ 1
once_counted xs n once = elim (in_or_not n xs) [
  | inl i ↦ omega (arith, times_in-distinct n xs once)
  | inr out ↦ omega (arith, times_in-absent n xs out)
]

-- of an item that is allowed by lowest key the key is not above the other's
pub lowest_key : (keys : List ℕ) (item other : ℕ) → AllowsLowest keys item other → slice_index keys item ≤ slice_index keys other
lowest_key keys item other (inl lower) = omega (arith, lower)
lowest_key keys item other (inr tie) = omega (arith, tie.0)

-- Dependencies that are made item by item: what is made so far is the first items of the whole.
module _ (d : PlainDependencies) (range : AreInRange d) (item : ℕ) (lt : item < length d.needs) where
  inside : item < length d.yields
  inside = omega (arith, range.paired)

  pub next_needs_fit : AreBelow d.count (needs_of d item)
  next_needs_fit = range.needs_fit item [] lt

  pub next_yields_fit : AreBelow d.count (yields_of d item)
  next_yields_fit = range.yields_fit item [] inside

  pub next_stays_small : StaysSmall (first_items d item) (needs_of d item) (yields_of d item)
  next_stays_small = record {
    items = omega (arith, length-take-le item d.needs (omega arith), range.few_items);
    more_needs = omega (arith, sum_by_more_le length d.needs item [] lt, range.few_needs);
    more_yields = omega (arith, sum_by_more_le length d.yields item [] inside, range.few_yields);
  }

  pub next_is_first : with_item (first_items d item) (needs_of d item) (yields_of d item) ≡ first_items d (item + 1)
  next_is_first =
      rw (take_more d.needs item [] lt, take_more d.yields item [] inside) refl

-- all first items are the whole
pub all_items : (d : PlainDependencies) → AreInRange d → first_items d (length d.needs) ≡ d
all_items d range = rw (take_all (length d.needs) d.needs (omega arith), take_all (length d.needs) d.yields (omega (arith, range.paired))) refl

module _ (d : PlainDependencies) (order : List ℕ) (h : IsOrder d order) where
  -- what the order makes known is in the least set
  pub known_is_reached : (number : ℕ) → IsKnown d order number → Reached d number
  known_is_reached number (inl i) = at_start number i
  known_is_reached number (inr y) = let r = (h.exact y.0).0 y.1 in by_item number y.0 r.0 r.1 y.2

  -- what is in the least set the order makes known
  pub reached_is_known : (number : ℕ) → Reached d number → IsKnown d order number
  reached_is_known _ (at_start number i) = inl i
  reached_is_known _ (by_item number item lt all i) = inr (item, (h.exact item).1 (lt, all), i)

  -- an item all of whose needs the order makes known is one of the order
  pub ready_comes : (item : ℕ) → item < length d.needs → IsReady d order item → Contains order item
  ready_comes item lt all = (h.exact item).1 (lt, λ used i. known_is_reached used (all used i))

  -- where all that any item needs is in the least set, the order has each item
  pub all_come : ((item used : ℕ) → item < length d.needs → Contains (needs_of d item) used → Reached d used) → (item : ℕ) → item < length d.needs → Contains order item
  all_come all item lt = (h.exact item).1 (lt, λ used i. all item used lt i)

-- the least set has numbers below the count only
pub reached_below : (d : PlainDependencies) → AreInRange d → (number : ℕ) → Reached d number → number < d.count
reached_below d range _ (at_start number i) = All-contains (λ n. n < d.count) d.starts number range.starts_fit i
reached_below d range _ (by_item number item lt all i) =
    All-contains (λ n. n < d.count) (yields_of d item) number (next_yields_fit d range item lt) i

-- a number whose bit is 0 is not in the least set
pub unknown_is_unreached : (d : PlainDependencies) (found : PlainOrder) → IsOrderOf d found → (number : ℕ) → get_or found.known number false ≡ false → Reached d number → ⊥
unknown_is_unreached d found h number unknown reached = true≢false (sym ((h.known number).1 reached) ∙ unknown)
