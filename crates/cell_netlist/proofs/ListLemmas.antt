-- Membership, tests on lists and numbers, and what they tell.
use Rattle.std.proofs.Common.{◌≡◌, ◌<◌, ℕ, zero, suc, Bool, true, Option, Some, None, List, [], ◌∷◌, slice_get, sym, subst, inl, inr, arith, refl}
use Rattle.std.specs.List.{list_any, list_all}
use Rattle.std.proofs.lemmas.Bool.{and_parts, and_from, or_cases, or_left, or_right, eqb-true, eq-eqb, cases_eq}
use Rattle.pulse_ids.specs.Lists.{IsIn}
use Rattle.cell_netlist.specs.Decisions.{all_below, all_pairs, is_some_with, has}
use Rattle.pulse_ids.proofs.CallerLemmas.{IsIn-place, place_of}
use Rattle.std.proofs.Common.{◌≡◌, ◌<◌, ◌⊎◌, ℕ, zero, suc, Bool, true, Option, Some, None, List, slice_get, sym, subst, inl, inr, arith, refl}
use Rattle.std.specs.List.{list_all}
use Rattle.std.proofs.lemmas.Bool.{cases_eq}

-- what a test of all numbers below n tells
pub all_below-at : (test : ℕ → Bool) (n : ℕ) → all_below test n ≡ true → (k : ℕ) → k < n → test k ≡ true
all_below-at test zero e k lt = absurd (omega arith)
all_below-at test (suc n) e k lt = elim (cases_eq k n) [
  | inl same ↦ subst (λ m. test m ≡ true) (sym same) (and_parts _ _ e).0
  | inr other ↦ all_below-at test n (and_parts _ _ e).1 k (omega arith)
]

pub all_below-from : (test : ℕ → Bool) (n : ℕ) → ((k : ℕ) → k < n → test k ≡ true) → all_below test n ≡ true
all_below-from test zero all = refl
all_below-from test (suc n) all = and_from _ _ (all n (omega arith)) (all_below-from test n (λ k lt. all k (omega arith)))

module _ {X : Type 0} where
  -- what a test of all items tells
  pub list_all-at : (test : X → Bool) (xs : List X) → list_all test xs ≡ true → (x : X) → IsIn x xs → test x ≡ true
  list_all-at test [] e x h = absurd h
  list_all-at test (y ∷ xs) e x (inl same) = subst (λ z. test z ≡ true) same (and_parts _ _ e).0
  list_all-at test (y ∷ xs) e x (inr h) = list_all-at test xs (and_parts _ _ e).1 x h

  pub list_all-from : (test : X → Bool) (xs : List X) → ((x : X) → IsIn x xs → test x ≡ true) → list_all test xs ≡ true
  list_all-from test [] all = refl
  list_all-from test (y ∷ xs) all = and_from _ _ (all y (inl refl)) (list_all-from test xs (λ x h. all x (inr h)))

  -- what a test of some item tells
  pub list_any-at : (test : X → Bool) (xs : List X) → list_any test xs ≡ true → (x : X) × IsIn x xs × (test x ≡ true)
  list_any-at test [] e = absurd cc
  list_any-at test (y ∷ xs) e = elim (or_cases _ _ e) [
    | inl here ↦ (y, inl refl, here)
    | inr later ↦ let found = list_any-at test xs later in (found.0, inr found.1, found.2)
  ]

  pub list_any-from : (test : X → Bool) (xs : List X) (x : X) → IsIn x xs → test x ≡ true → list_any test xs ≡ true
  list_any-from test [] x h e = absurd h
  list_any-from test (y ∷ xs) x (inl same) e = or_left _ _ (subst (λ z. test z ≡ true) (sym same) e)
  list_any-from test (y ∷ xs) x (inr h) e = or_right _ _ (list_any-from test xs x h e)

  -- what a test of all pairs tells
  pub all_pairs-at : (test : X → X → Bool) (xs : List X) → all_pairs test xs ≡ true → (i j : ℕ) (x y : X) → i < j
      → slice_get xs i ≡ Some x → slice_get xs j ≡ Some y → test x y ≡ true
  all_pairs-at test [] e i j x y lt at_i at_j = absurd cc
  all_pairs-at test (z ∷ xs) e i zero x y lt at_i at_j = absurd (omega arith)
  all_pairs-at test (z ∷ xs) e zero (suc j) x y lt at_i at_j =
      let same : z ≡ x = cc in
      subst (λ w. test w y ≡ true) same (list_all-at (test z) xs (and_parts _ _ e).0 y (IsIn-place y xs j at_j))
  all_pairs-at test (z ∷ xs) e (suc i) (suc j) x y lt at_i at_j = all_pairs-at test xs (and_parts _ _ e).1 i j x y (omega arith) at_i at_j

  pub all_pairs-from : (test : X → X → Bool) (xs : List X)
      → ((i j : ℕ) (x y : X) → i < j → slice_get xs i ≡ Some x → slice_get xs j ≡ Some y → test x y ≡ true) → all_pairs test xs ≡ true
  all_pairs-from test [] all = refl
  all_pairs-from test (z ∷ xs) all = and_from _ _
      (list_all-from (test z) xs (λ y h. let at = place_of y xs h in all 0 (suc at.0) z y (omega arith) refl at.1))
      (all_pairs-from test xs (λ i j x y lt at_i at_j. all (suc i) (suc j) x y (omega arith) at_i at_j))

  -- what a test of an option tells
  pub is_some_with-at : (test : X → Bool) (o : Option X) → is_some_with test o ≡ true → (x : X) × (o ≡ Some x) × (test x ≡ true)
  is_some_with-at test None e = absurd cc
  is_some_with-at test (Some x) e = (x, refl, e)

-- a number that is tested to stand in a list
pub has-at : (n : ℕ) (xs : List ℕ) → has n xs ≡ true → IsIn n xs
has-at n [] e = absurd cc
has-at n (x ∷ xs) e = elim (or_cases _ _ e) [ inl here ↦ inl (eqb-true _ _ here) | inr later ↦ inr (has-at n xs later) ]

pub has-from : (n : ℕ) (xs : List ℕ) → IsIn n xs → has n xs ≡ true
has-from n [] h = absurd h
has-from n (x ∷ xs) (inl e) = or_left _ _ (eq-eqb _ _ e)
has-from n (x ∷ xs) (inr h) = or_right _ _ (has-from n xs h)

-- the first number below a bound that has a property, where each can be decided when none before it has it
pub first_of : (P : ℕ → Type 0) (m : ℕ) → ((n : ℕ) → n < m → ((k : ℕ) → k < n → P k → ⊥) → P n ⊎ (P n → ⊥))
    → ((n : ℕ) → n < m → P n → ⊥) ⊎ ((n : ℕ) × (n < m) × P n × ((k : ℕ) → k < n → P k → ⊥))
first_of P zero decide = inl (λ n lt p. absurd (omega (arith, lt)))
first_of P (suc m) decide = elim (first_of P m (λ n lt before. decide n (omega (arith, lt)) before)) [
  | inr found ↦ let lt : found.0 < m = found.1 in inr (found.0, omega arith, found.2, found.3)
  | inl none ↦ elim (decide m (omega arith) none) [
    | inl here ↦ inr (m, omega arith, here, none)
    | inr without ↦ inl (λ n lt p. last n lt p none without)
  ]
]
  where
    last : (n : ℕ) → n < suc m → P n → ((k : ℕ) → k < m → P k → ⊥) → (P m → ⊥) → ⊥
    last n lt p none without = elim (cases_eq n m) [
      | inl same ↦ without (subst P same p)
      | inr other ↦ none n (omega arith) p
    ]

module _ {X : Type 0} where
  -- a value is there or not
  pub some_or_none : (o : Option X) → ((x : X) × (o ≡ Some x)) ⊎ (o ≡ None)
  some_or_none None = inr refl
  some_or_none (Some x) = inl (x, refl)

  -- whether the item at a place has a property
  pub decide_item : (xs : List X) (i : ℕ) (P : X → Type 0) → ((x : X) → IsIn x xs → P x ⊎ (P x → ⊥))
      → ((x : X) × (slice_get xs i ≡ Some x) × P x) ⊎ (((x : X) × (slice_get xs i ≡ Some x) × P x) → ⊥)
  decide_item xs i P decide = elim (some_or_none (slice_get xs i)) [
    | inr none ↦ inr (λ found. let e = found.1 in absurd cc)
    | inl some ↦ elim (decide some.0 (IsIn-place some.0 xs i some.1)) [
      | inl has ↦ inl (some.0, some.1, has)
      | inr without ↦ inr (λ found.
          let e = found.1 in
          let its = some.1 in
          let same : found.0 ≡ some.0 = cc in without (subst P same found.2))
    ]
  ]
