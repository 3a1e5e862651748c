-- Different numbers below a number are no more than it.
use Rattle.std.proofs.Common.{◌≡◌, ◌+◌, ◌<◌, ◌≤◌, ◌||◌, ℕ, inl, inr, Bool, true, false, cond, List, [], ◌∷◌, length, eqb, refl, sym, arith}
use Rattle.std.specs.List.{AllByRecursion, IsDistinct, list_any}
use Rattle.std.proofs.lemmas.Bool.{eqb-true}
use Rattle.std.proofs.lemmas.Map.Steps.{length-le_from_distinct_below}
use Rattle.pulse_ids.specs.Lists.{IsIn, occurrences}
use Rattle.pulse_ids.proofs.CallerLemmasOnCounts.{occurrences-head}

any_in : (q : ℕ) (xs : List ℕ) → list_any (eqb q) xs ≡ true → IsIn q xs
any_in q [] e = absurd cc
any_in q (x ∷ xs) e = go (eqb q x) refl e (any_in q xs)
  where
    go : (b : Bool) → eqb q x ≡ b → (b || list_any (eqb q) xs) ≡ true → (list_any (eqb q) xs ≡ true → IsIn q xs) → IsIn q (x ∷ xs)
    go true t e rest = inl (sym (eqb-true q x t))
    go false t e rest = inr (rest e)

pub few_distinct : (xs : List ℕ) (n : ℕ) → IsDistinct eqb xs → ((q : ℕ) → IsIn q xs → q < n) → length xs ≤ n
few_distinct xs n once low = length-le_from_distinct_below xs n once (λ q e. low q (any_in q xs e))

-- numbers of which each stands in a list at most once
apart : (n : ℕ) (xs : List ℕ) → occurrences n xs ≡ 0 → AllByRecursion (λ x. eqb n x ≡ false) xs
apart n [] none = tt
apart n (x ∷ xs) none = go (eqb n x) refl none (apart n xs)
  where
    go : (b : Bool) → eqb n x ≡ b → cond b 1 0 + occurrences n xs ≡ 0 → (occurrences n xs ≡ 0 → AllByRecursion (λ x. eqb n x ≡ false) xs)
        → (eqb n x ≡ false) × AllByRecursion (λ x. eqb n x ≡ false) xs
    go true e none rest = absurd (omega (arith, none))
    go false e none rest = (e, rest (omega (arith, none)))

once_distinct : (xs : List ℕ) → ((n : ℕ) → occurrences n xs ≤ 1) → IsDistinct eqb xs
unfolding IsDistinct
once_distinct [] once = tt
once_distinct (x ∷ xs) once =
    (apart x xs (omega (arith, once x, occurrences-head x x xs refl)), once_distinct xs (λ n. omega (arith, once n)))

pub few_once : (xs : List ℕ) (n : ℕ) → ((q : ℕ) → occurrences q xs ≤ 1) → ((q : ℕ) → IsIn q xs → q < n) → length xs ≤ n
few_once xs n once low = few_distinct xs n (once_distinct xs once) low
