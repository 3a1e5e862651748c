-- Places of lists: the lemmas that the crates above may cite.
use Rattle.std.proofs.Common.{◌≡◌, ℕ, zero, suc, ◌+◌, ◌<◌, List, [], ◌∷◌, ◌++◌, length, slice_get, Some, inl, inr, refl, ap, arith}
use Rattle.std.proofs.lemmas.Option.{slice_get_cases}

pub slice_get-left : {X : Type 0} (xs ys : List X) (k : ℕ) → k < length xs → slice_get (xs ++ ys) k ≡ slice_get xs k
slice_get-left [] ys k h = absurd (omega (arith, h))
slice_get-left (x ∷ xs) ys zero h = refl
slice_get-left (x ∷ xs) ys (suc k) h = slice_get-left xs ys k (omega arith)

pub slice_get-at : {X : Type 0} (xs ys : List X) (n k : ℕ) → n ≡ length xs + k → slice_get (xs ++ ys) n ≡ slice_get ys k
slice_get-at [] ys n k e = let same : n ≡ k = omega arith in ap (slice_get ys) same
slice_get-at (x ∷ xs) ys zero k e = absurd (omega (arith, e))
slice_get-at (x ∷ xs) ys (suc n) k e = slice_get-at xs ys n k (omega arith)

-- a place that has an item is a place
pub slice_get_bound : {X : Type 0} (xs : List X) (k : ℕ) (x : X) → slice_get xs k ≡ Some x → k < length xs
slice_get_bound xs k x e = elim (slice_get_cases xs k).1 [ inl there ↦ there.1 | inr past ↦ absurd (cc (e, past.1)) ]

-- and a place has an item
pub slice_get_item : {X : Type 0} (xs : List X) (k : ℕ) → k < length xs → (x : X) × (slice_get xs k ≡ Some x)
slice_get_item xs k h = elim (slice_get_cases xs k).1 [
  | inl there ↦ (there.0, there.2)
  | inr past ↦ absurd (omega (arith, h, past.0))
]
