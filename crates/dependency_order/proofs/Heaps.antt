-- Items in a heap.
use Rattle.std.proofs.Common.{◌≡◌, ℕ, ◌≤◌, ◌<◌, ◌⊎◌, inl, inr, List, [], ◌∷◌, map, false, sym, ap, arith, All, Contains}
use Rattle.std.specs.Prelude.{slice_index}
use Rattle.std.specs.List.{AllByRecursion}
use Rattle.std.specs.Ordering.{nat_cmp, is_lt, ordering_then, MatchOrdering}
use Rattle.std.specs.Cmp.{ranks}
use Rattle.std.specs.declared.cmp.Ordering.{Ordering}
use Rattle.std.specs.declared.cmp.Ordering.TheVariants.{Less, Equal, Greater}
use Rattle.std.proofs.lemmas.List.Elements.{All-head, All-tail}
use Rattle.dependency_order.specs.Agendas.{AllowsLowest}
use Rattle.dependency_order.proofs.Members.{Contains-nil, Contains-cons_cases}

not_lower : (r : Ordering) (x y : ℕ) → MatchOrdering r (y < x) (y ≡ x) (x < y) → is_lt r ≡ false → x ≤ y
not_lower Less x y h e = absurd cc
not_lower Equal x y h e = omega (arith, h)
not_lower Greater x y h e = omega (arith, h)

-- the lower key is first, and of equal keys the lower item
pub key_first : (key_x key_y item_x item_y : ℕ) → is_lt (ordering_then (nat_cmp key_y key_x) (nat_cmp item_y item_x)) ≡ false → (key_x < key_y) ⊎ ((key_x ≡ key_y) × (item_x ≤ item_y))
key_first key_x key_y item_x item_y e = go (nat_cmp key_y key_x) (ranks key_y key_x) e
  where
    go : (r : Ordering) → MatchOrdering r (key_y < key_x) (key_y ≡ key_x) (key_x < key_y) → is_lt (ordering_then r (nat_cmp item_y item_x)) ≡ false → (key_x < key_y) ⊎
        ((key_x ≡ key_y) × (item_x ≤ item_y))
    go Less h f = absurd cc
    go Equal h f = inr (sym h, not_lower (nat_cmp item_y item_x) item_x item_y (ranks item_y item_x) f)
    go Greater h f = inl h

module _ {X : Type 0} (f : X → ℕ) where
  -- the item that comes before all others of a heap may be taken
  pub lowest_first : (cmp : X → X → Ordering) (key : X → ℕ) (keys : List ℕ) → ((x y : X) → is_lt (cmp x y) ≡ false → (key x < key y) ⊎ ((key x ≡ key y) × (f x ≤ f y))) →
      (x : X) (xs : List X) → key x ≡ slice_index keys (f x) → All (λ y. key y ≡ slice_index keys (f y)) xs → AllByRecursion (λ y. is_lt (cmp x y) ≡ false) xs →
      (other : ℕ) → Contains (map f xs) other → AllowsLowest keys (f x) other
  lowest_first cmp key keys first x [] e all bound other i = absurd (Contains-nil other i)
  lowest_first cmp key keys first x (y ∷ ys) e all bound other i = go (Contains-cons_cases other (f y) (map f ys) i)
      (λ j. lowest_first cmp key keys first x ys e (All-tail (λ z. key z ≡ slice_index keys (f z)) y ys all) bound.1 other j)
    where
      here : key y ≡ slice_index keys (f y)
      here = All-head (λ z. key z ≡ slice_index keys (f z)) y ys all

      go : (f y ≡ other) ⊎ Contains (map f ys) other → (Contains (map f ys) other → AllowsLowest keys (f x) other) → AllowsLowest keys (f x) other
      go (inl s) rest = elim (first x y bound.0) [
        | inl lower ↦ inl (omega (arith, e, here, lower, ap (λ n. slice_index keys n) s))
        | inr tie ↦ inr (omega (arith, e, here, tie.0, ap (λ n. slice_index keys n) s), omega (arith, s, tie.1))
      ]
      go (inr j) rest = rest j
