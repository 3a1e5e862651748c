-- Members of lists of numbers, and how often a number stands in one.
use Rattle.std.proofs.Common.{◌≡◌, ◌≢◌, ℕ, zero, suc, ◌+◌, ◌≤◌, ◌<◌, ◌⊎◌, inl, inr, List, [], ◌∷◌, ◌++◌, length, take, get_or, Bool, true, false, ◌==◌, nat_lt, eqb, ltb-true, ltb-false, cond, refl, sym, ◌∙◌, ap, subst, arith, eq-eqb, ne_eqb, Contains, IsPermutation}
use Rattle.std.specs.List.{IsDistinct}
use Rattle.std.specs.Prelude.{slice_index}
use Rattle.std.proofs.lemmas.Bool.{eqb-true, eqb-false}
use Rattle.std.proofs.lemmas.List.{get_or_default}
use Rattle.std.proofs.lemmas.List.Elements.{Contains-get_or}
use Rattle.std.proofs.lemmas.List.Sums.{sum_by-cons, sum_by-append}
use Rattle.std.proofs.lemmas.List.Sorted.{sum_by_pushed, length_permutation}
use Rattle.std.proofs.lemmas.Map.Keys.{apart_from_distinct, IsDistinct-from_apart, IsDistinct-tail}
use Rattle.dependency_order.specs.Searches.{times_in}

pub same_or_not : (a b : ℕ) → (a ≡ b) ⊎ (a ≢ b)
same_or_not a b = go (a == b) refl
  where
    go : (test : Bool) → (a == b) ≡ test → (a ≡ b) ⊎ (a ≢ b)
    go true e = inl (eqb-true a b e)
    go false e = inr (eqb-false a b e)

pub lower_or_not : (a b : ℕ) → (a < b) ⊎ (b ≤ a)
lower_or_not a b = go (nat_lt a b) refl
  where
    go : (test : Bool) → nat_lt a b ≡ test → (a < b) ⊎ (b ≤ a)
    go true e = inl (ltb-true a b e)
    go false e = inr (ltb-false a b e)

module _ {X : Type 0} where
  pub Contains-nil : (x : X) → Contains [] x → ⊥
  Contains-nil x h = omega (arith, h.1)

  pub Contains-first : (x : X) (xs : List X) → Contains (x ∷ xs) x
  Contains-first x xs = (0, omega arith, refl)

  pub Contains-later : (x y : X) (xs : List X) → Contains xs x → Contains (y ∷ xs) x
  Contains-later x y xs h = (suc h.0, omega (arith, h.1), h.2)

  pub Contains-cons_cases : (x y : X) (xs : List X) → Contains (y ∷ xs) x → (y ≡ x) ⊎ Contains xs x
  Contains-cons_cases x y xs h = go h.0 h.1 h.2
    where
      go : (k : ℕ) → k < length (y ∷ xs) → get_or (y ∷ xs) k x ≡ x → (y ≡ x) ⊎ Contains xs x
      go zero lt e = inl e
      go (suc k) lt e = inr (k, omega arith, e)

  pub Contains-take : (x : X) (n : ℕ) (xs : List X) → Contains (take n xs) x → Contains xs x
  Contains-take x zero xs h = absurd (Contains-nil x h)
  Contains-take x (suc n) [] h = absurd (Contains-nil x h)
  Contains-take x (suc n) (y ∷ xs) h = elim (Contains-cons_cases x y (take n xs) h) [
    | inl e ↦ subst (λ z. Contains (y ∷ xs) z) e (Contains-first y xs)
    | inr i ↦ Contains-later x y xs (Contains-take x n xs i)
  ]

-- what is in a list has a place in it
pub place_of : (x : ℕ) (xs : List ℕ) → Contains xs x → (i : ℕ) × (i < length xs) × (slice_index xs i ≡ x)
place_of x xs h = (h.0, h.1, get_or_default xs h.0 0 x h.1 ∙ h.2)

-- what is in the first items of a list has a place there
pub place_in_take : (n : ℕ) (xs : List ℕ) (x : ℕ) → Contains (take n xs) x → (i : ℕ) × (i < n) × (i < length xs) × (slice_index xs i ≡ x)
place_in_take zero xs x h = absurd (Contains-nil x h)
place_in_take (suc n) [] x h = absurd (Contains-nil x h)
place_in_take (suc n) (y ∷ xs) x h = elim (Contains-cons_cases x y (take n xs) h) [
  | inl e ↦ (0, omega arith, omega arith, e)
  | inr i ↦ let r = place_in_take n xs x i in (suc r.0, omega (arith, r.1), omega (arith, r.2), r.3)
]

-- a number stands in a list or doesn't
pub in_or_not : (x : ℕ) (xs : List ℕ) → Contains xs x ⊎ (Contains xs x → ⊥)
in_or_not x [] = inr (Contains-nil x)
in_or_not x (y ∷ xs) = go (same_or_not y x) (in_or_not x xs)
  where
    go : (y ≡ x) ⊎ (y ≢ x) → Contains xs x ⊎ (Contains xs x → ⊥) → Contains (y ∷ xs) x ⊎ (Contains (y ∷ xs) x → ⊥)
    go (inl e) r = inl (subst (λ z. Contains (y ∷ xs) z) e (Contains-first y xs))
    go (inr ne) (inl h) = inl (Contains-later x y xs h)
    go (inr ne) (inr out) = inr (λ h. elim (Contains-cons_cases x y xs h) [ inl e ↦ ne e | inr i ↦ out i ])

pub times_in-head : (n x : ℕ) (xs : List ℕ) → x ≡ n → times_in n (x ∷ xs) ≡ 1 + times_in n xs
times_in-head n x xs e =
    sum_by-cons (λ y. cond (y == n) 1 0) x xs ∙ ap (λ t. (cond t 1 0) + times_in n xs) (eq-eqb x n e)

pub times_in-other : (n x : ℕ) (xs : List ℕ) → x ≢ n → times_in n (x ∷ xs) ≡ times_in n xs
times_in-other n x xs ne =
    let step : times_in n (x ∷ xs) ≡ 0 + times_in n xs = sum_by-cons (λ y. cond (y == n) 1 0) x xs ∙ ap (λ t. (cond t 1 0) + times_in n xs) (ne_eqb x n ne) in
    omega arith

pub times_in-append : (n : ℕ) (xs ys : List ℕ) → times_in n (xs ++ ys) ≡ times_in n xs + times_in n ys
times_in-append n xs ys = sum_by-append (λ y. cond (y == n) 1 0) xs ys

pub times_in-absent : (n : ℕ) (xs : List ℕ) → (Contains xs n → ⊥) → times_in n xs ≡ 0
times_in-absent n [] out = refl
times_in-absent n (x ∷ xs) out =
    times_in-other n x xs (λ e. out (subst (λ z. Contains (x ∷ xs) z) e (Contains-first x xs))) ∙ times_in-absent n xs (λ i. out (Contains-later n x xs i))

pub times_in-present : (n : ℕ) (xs : List ℕ) → Contains xs n → 1 ≤ times_in n xs
times_in-present n [] h = absurd (Contains-nil n h)
times_in-present n (x ∷ xs) h = go (same_or_not x n) (λ i. times_in-present n xs i)
  where
    go : (x ≡ n) ⊎ (x ≢ n) → (Contains xs n → 1 ≤ times_in n xs) → 1 ≤ times_in n (x ∷ xs)
    go (inl e) rest = omega (arith, times_in-head n x xs e)
    go (inr ne) rest = elim (Contains-cons_cases n x xs h) [
      | inl e ↦ absurd (ne e)
      | inr i ↦ omega (arith, times_in-other n x xs ne, rest i)
    ]

pub present_by_times : (n : ℕ) (xs : List ℕ) → 1 ≤ times_in n xs → Contains xs n
present_by_times n xs le = elim (in_or_not n xs) [ inl i ↦ i | inr out ↦ absurd (omega (arith, times_in-absent n xs out)) ]

-- each number that a list with one item more has
pub times_in-pushed : (n x : ℕ) (xs ys : List ℕ) → IsPermutation (x ∷ xs) ys → times_in n ys ≡ times_in n (x ∷ xs)
times_in-pushed n x xs ys p =
    sum_by_pushed (λ y. cond (y == n) 1 0) x xs ys p ∙ sym (sum_by-cons (λ y. cond (y == n) 1 0) x xs)

pub length_pushed : (x : ℕ) (xs ys : List ℕ) → IsPermutation (x ∷ xs) ys → length ys ≡ length xs + 1
length_pushed x xs ys p = omega (arith, length_permutation (x ∷ xs) ys p)

-- two places of a number that stands once are the same
pub once_at : (n : ℕ) (xs : List ℕ) (i j : ℕ) → times_in n xs ≤ 1 → i < length xs → j < length xs → slice_index xs i ≡ n → slice_index xs j ≡ n → i ≡ j
once_at n [] i j once p q e f = absurd (omega arith)
once_at n (x ∷ xs) zero zero once p q e f = refl
once_at n (x ∷ xs) zero (suc j) once p q e f =
    absurd (omega (arith, times_in-head n x xs e, times_in-present n xs (subst (λ m. Contains xs m) f (Contains-get_or xs j 0 (omega arith)))))
once_at n (x ∷ xs) (suc i) zero once p q e f =
    absurd (omega (arith, times_in-head n x xs f, times_in-present n xs (subst (λ m. Contains xs m) e (Contains-get_or xs i 0 (omega arith)))))
once_at n (x ∷ xs) (suc i) (suc j) once p q e f =
    ap suc (once_at n xs i j (fewer (same_or_not x n)) (omega arith) (omega arith) e f)
  where
    fewer : (x ≡ n) ⊎ (x ≢ n) → times_in n xs ≤ 1
    fewer (inl s) = omega (arith, times_in-head n x xs s)
    fewer (inr d) = omega (arith, times_in-other n x xs d)

-- a list in which no number stands twice has each number once
pub distinct_by_times : (xs : List ℕ) → ((n : ℕ) → times_in n xs ≤ 1) → IsDistinct eqb xs
distinct_by_times xs once = IsDistinct-from_apart eqb xs (λ i j d low lt. ne_eqb (get_or xs i d) (get_or xs j d) (λ e. absurd (apart i j d low lt e)))
  where
    apart : (i j d : ℕ) → i < j → j < length xs → get_or xs i d ≡ get_or xs j d → ⊥
    apart i j d low lt e =
        let same : i ≡ j = once_at (get_or xs j d) xs i j (once (get_or xs j d)) (omega arith) lt (get_or_default xs i 0 d (omega arith) ∙ e) (get_or_default xs j 0 d lt) in omega arith

-- where no number stands twice a number stands once at most
pub times_in-distinct : (n : ℕ) (xs : List ℕ) → IsDistinct eqb xs → times_in n xs ≤ 1
times_in-distinct n [] once = omega arith
times_in-distinct n (x ∷ xs) once = go (same_or_not x n) (times_in-distinct n xs (IsDistinct-tail eqb x xs once))
  where
    apart : x ≡ n → Contains xs n → ⊥
    apart e i =
        let p = place_of n xs i in
        eqb-false x (slice_index xs p.0) (apart_from_distinct eqb (x ∷ xs) 0 (suc p.0) 0 once (omega arith) (omega (arith, p.1))) (e ∙ sym p.2)

    go : (x ≡ n) ⊎ (x ≢ n) → times_in n xs ≤ 1 → times_in n (x ∷ xs) ≤ 1
    go (inl e) rest = omega (arith, times_in-head n x xs e, times_in-absent n xs (apart e))
    go (inr ne) rest = omega (arith, times_in-other n x xs ne)
