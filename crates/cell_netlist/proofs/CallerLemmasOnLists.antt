-- What stands at the places of a list, also of one with an item set, and what holds of each item: the lemmas that the crates above may cite.
use Rattle.std.proofs.Common.{◌≡◌, ◌≢◌, ◌<◌, ◌+◌, ℕ, zero, suc, Some, List, [], ◌∷◌, length, drop, slice_get, slice_set, ap, subst, refl, inl, inr, arith}
use Rattle.pulse_ids.specs.Lists.{IsIn}

-- each item of a list has P
abbrev pub Each : {X : Type 0} → (X → Type 0) → List X → Type 0
Each P [] = Unit
Each P (x ∷ xs) = P x × Each P xs

module _ {X : Type 0} where
  pub each-at : (P : X → Type 0) (xs : List X) → Each P xs → (x : X) → IsIn x xs → P x
  each-at P [] all x h = absurd h
  each-at P (y ∷ xs) all x (inl same) = subst P same all.0
  each-at P (y ∷ xs) all x (inr h) = each-at P xs all.1 x h

  -- what stands at a place of a list, and all behind it
  pub drop-at : (xs : List X) (i : ℕ) (x : X) → slice_get xs i ≡ Some x → drop i xs ≡ x ∷ drop (i + 1) xs
  drop-at [] zero x e = absurd cc
  drop-at [] (suc i) x e = absurd cc
  drop-at (y ∷ xs) zero x e = let same : y ≡ x = cc in ap (λ z. z ∷ xs) same
  drop-at (y ∷ xs) (suc i) x e =
      let next : suc (i + 1) ≡ suc i + 1 = omega arith in subst (λ k. drop i xs ≡ x ∷ drop k (y ∷ xs)) next (drop-at xs i x e)

  -- a list with an item set
  pub set-length : (xs : List X) (i : ℕ) (x : X) → length (slice_set xs i x) ≡ length xs
  set-length [] zero x = refl
  set-length [] (suc i) x = refl
  set-length (y ∷ xs) zero x = refl
  set-length (y ∷ xs) (suc i) x = ap (λ n. suc n) (set-length xs i x)

  pub set-same : (xs : List X) (i : ℕ) (x : X) → i < length xs → slice_get (slice_set xs i x) i ≡ Some x
  set-same [] i x lt = absurd (omega arith)
  set-same (y ∷ xs) zero x lt = refl
  set-same (y ∷ xs) (suc i) x lt = set-same xs i x (omega arith)

  pub set-other : (xs : List X) (i j : ℕ) (x : X) → j ≢ i → slice_get (slice_set xs i x) j ≡ slice_get xs j
  set-other [] zero j x ne = refl
  set-other [] (suc i) j x ne = refl
  set-other (y ∷ xs) zero zero x ne = absurd (ne refl)
  set-other (y ∷ xs) zero (suc j) x ne = refl
  set-other (y ∷ xs) (suc i) zero x ne = refl
  set-other (y ∷ xs) (suc i) (suc j) x ne = set-other xs i j x (λ e. ne (ap (λ n. suc n) e))
