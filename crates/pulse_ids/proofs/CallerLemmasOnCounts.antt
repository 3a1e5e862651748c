-- How often numbers stand in lists, and rising numbers: the lemmas that the crates above may cite.
use Rattle.std.proofs.Common.{◌≡◌, ◌≢◌, ℕ, zero, suc, ◌+◌, ◌≤◌, ◌<◌, ◌⊎◌, inl, inr, List, [], ◌∷◌, ◌++◌, length, length-append, map, get_or, Some, slice_get, Bool, true, false, ◌==◌, if◌then◌else◌, refl, sym, ◌∙◌, ap, subst, arith, eq-eqb}
use Rattle.std.proofs.lemmas.Bool.{eqb-true, cases_eq, cases_lt}
use Rattle.pulse_ids.specs.Lists.{IsIn, occurrences, upto}
use Rattle.pulse_ids.proofs.CallerLemmas.{IsIn-map, IsIn-at}

-- 1 for a test that holds
abbrev pub one_if : Bool → ℕ
one_if test = if test then 1 else 0

pub test_same : (a b : ℕ) → a ≡ b → one_if (a == b) ≡ 1
test_same a b e = ap one_if (eq-eqb a b e)

pub test_other : (a b : ℕ) → a ≢ b → one_if (a == b) ≡ 0
test_other a b ne = go (a == b) refl
  where
    go : (test : Bool) → (a == b) ≡ test → one_if test ≡ 0
    go true e = absurd (ne (eqb-true a b e))
    go false e = refl

pub occurrences-append : (n : ℕ) (xs ys : List ℕ) → occurrences n (xs ++ ys) ≡ occurrences n xs + occurrences n ys
occurrences-append n [] ys = omega arith
occurrences-append n (x ∷ xs) ys = let r = occurrences-append n xs ys in omega arith

pub occurrences-head : (n x : ℕ) (xs : List ℕ) → x ≡ n → occurrences n (x ∷ xs) ≡ 1 + occurrences n xs
occurrences-head n x xs e = ap (λ t. t + occurrences n xs) (test_same n x (sym e))

pub occurrences-other : (n x : ℕ) (xs : List ℕ) → x ≢ n → occurrences n (x ∷ xs) ≡ occurrences n xs
occurrences-other n x xs ne = ap (λ t. t + occurrences n xs) (test_other n x (λ e. ne (sym e))) ∙ omega arith

pub occurrences-absent : (n : ℕ) (xs : List ℕ) → (IsIn n xs → ⊥) → occurrences n xs ≡ 0
occurrences-absent n [] out = refl
occurrences-absent n (x ∷ xs) out =
    occurrences-other n x xs (λ e. out (inl e)) ∙ occurrences-absent n xs (λ i. out (inr i))

pub IsIn-occurrences : (n : ℕ) (xs : List ℕ) → IsIn n xs → 1 ≤ occurrences n xs
IsIn-occurrences n [] h = absurd h
IsIn-occurrences n (x ∷ xs) (inl e) = omega (arith, occurrences-head n x xs e)
IsIn-occurrences n (x ∷ xs) (inr h) = let r = IsIn-occurrences n xs h in omega arith

pub occurrences-IsIn : (n : ℕ) (xs : List ℕ) → 1 ≤ occurrences n xs → IsIn n xs
occurrences-IsIn n [] h = absurd (omega arith)
occurrences-IsIn n (x ∷ xs) h = elim (cases_eq x n) [
  | inl e ↦ inl e
  | inr ne ↦ inr (occurrences-IsIn n xs (omega (arith, occurrences-other n x xs ne)))
]

-- two items of one key are the same where the key stands once
pub same_item : {X : Type 0} (key : X → ℕ) (n : ℕ) (xs : List X) (a b : X) → occurrences n (map key xs) ≤ 1
    → IsIn a xs → IsIn b xs → key a ≡ n → key b ≡ n → a ≡ b
same_item key n [] a b once h i p q = absurd h
same_item key n (x ∷ xs) a b once (inl e) (inl f) p q = sym e ∙ f
same_item key n (x ∷ xs) a b once (inl e) (inr i) p q =
    let h = occurrences-head n (key x) (map key xs) (ap key e ∙ p) in
    let more = IsIn-occurrences n (map key xs) (subst (λ y. IsIn y (map key xs)) q (IsIn-map key b xs i)) in
    absurd (omega arith)
same_item key n (x ∷ xs) a b once (inr h) (inl f) p q =
    let first = occurrences-head n (key x) (map key xs) (ap key f ∙ q) in
    let more = IsIn-occurrences n (map key xs) (subst (λ y. IsIn y (map key xs)) p (IsIn-map key a xs h)) in
    absurd (omega arith)
same_item key n (x ∷ xs) a b once (inr h) (inr i) p q = same_item key n xs a b (omega arith) h i p q

-- two places of a number that stands once are the same
pub one_place : (n : ℕ) (xs : List ℕ) (i j : ℕ) → occurrences n xs ≤ 1 → i < length xs → j < length xs
    → get_or xs i 0 ≡ n → get_or xs j 0 ≡ n → i ≡ j
one_place n [] i j once p q e f = absurd (omega arith)
one_place n (x ∷ xs) zero zero once p q e f = refl
one_place n (x ∷ xs) zero (suc j) once p q e f =
    absurd (omega (arith, occurrences-head n x xs e, IsIn-occurrences n xs (subst (λ m. IsIn m xs) f (IsIn-at xs j 0 (omega arith)))))
one_place n (x ∷ xs) (suc i) zero once p q e f =
    absurd (omega (arith, occurrences-head n x xs f, IsIn-occurrences n xs (subst (λ m. IsIn m xs) e (IsIn-at xs i 0 (omega arith)))))
one_place n (x ∷ xs) (suc i) (suc j) once p q e f =
    ap suc (one_place n xs i j (omega arith) (omega arith) (omega arith) e f)

-- one number more at the end, that wasn't there
pub once_more : (x y : ℕ) (xs : List ℕ) → occurrences x xs ≤ 1 → (IsIn y xs → ⊥) → occurrences x (xs ++ y ∷ []) ≤ 1
once_more x y xs once out = go (cases_eq y x)
  where
    go : (y ≡ x) ⊎ (y ≢ x) → occurrences x (xs ++ y ∷ []) ≤ 1
    go (inl e) = omega (
      arith,
      occurrences-append x xs (y ∷ []),
      occurrences-head x y [] e,
      occurrences-absent x xs (λ i. out (subst (λ z. IsIn z xs) (sym e) i)),
    )
    go (inr ne) = omega (arith, occurrences-append x xs (y ∷ []), occurrences-other x y [] ne)

pub length-upto : (n : ℕ) → length (upto n) ≡ n
length-upto zero = refl
length-upto (suc n) = let r = length-upto n in let a = length-append (upto n) (n ∷ []) in omega arith

-- places of a longer list
slice_get-left : {X : Type 0} (xs ys : List X) (k : ℕ) (x : X) → slice_get xs k ≡ Some x → slice_get (xs ++ ys) k ≡ Some x
slice_get-left [] ys k x e = absurd cc
slice_get-left (z ∷ xs) ys zero x e = e
slice_get-left (z ∷ xs) ys (suc k) x e = slice_get-left xs ys k x e

slice_get-end : {X : Type 0} (xs ys : List X) (k : ℕ) (x : X) → k ≡ length xs → slice_get (xs ++ x ∷ ys) k ≡ Some x
slice_get-end [] ys zero x e = refl
slice_get-end [] ys (suc k) x e = absurd (omega arith)
slice_get-end (z ∷ xs) ys zero x e = absurd (omega arith)
slice_get-end (z ∷ xs) ys (suc k) x e = slice_get-end xs ys k x (omega arith)

pub slice_get-upto : (n k : ℕ) → k < n → slice_get (upto n) k ≡ Some k
slice_get-upto zero k h = absurd (omega arith)
slice_get-upto (suc n) k h = elim (cases_lt k n) [
  | inl lt ↦ slice_get-left (upto n) (n ∷ []) k k (slice_get-upto n k lt)
  | inr le ↦
      let same : n ≡ k = omega arith in
      subst (λ j. slice_get (upto n ++ n ∷ []) j ≡ Some j) same (slice_get-end (upto n) [] n n (sym (length-upto n)))
]
