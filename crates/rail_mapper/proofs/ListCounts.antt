-- What counts of numbers in lists tell.
use Rattle.std.proofs.Common.{◌≡◌, ◌≤◌, ◌+◌, inl, inr, ℕ, List, [], ◌∷◌, length, ap, sym, subst, refl, arith}
use Rattle.pulse_ids.specs.Lists.{IsIn, occurrences, HowManyHave}
use Rattle.pulse_ids.proofs.CallerLemmas.{is_in}
use Rattle.pulse_ids.proofs.CallerLemmasOnCounts.{occurrences-head, occurrences-absent, IsIn-occurrences, occurrences-IsIn}

-- a list without one of its items
abbrev pub rest_of : (x : ℕ) (xs : List ℕ) → IsIn x xs → List ℕ
rest_of x [] m = absurd m
rest_of x (y ∷ xs) (inl e) = xs
rest_of x (y ∷ xs) (inr m) = y ∷ rest_of x xs m

pub rest_count : (x : ℕ) (xs : List ℕ) (m : IsIn x xs) (n : ℕ) → occurrences n xs ≡ occurrences n (x ∷ rest_of x xs m)
rest_count x [] m n = absurd m
rest_count x (y ∷ xs) (inl e) n = ap (λ (k : ℕ). occurrences n (k ∷ xs)) e
rest_count x (y ∷ xs) (inr m) n = let r = rest_count x xs m n in omega arith

pub rest_length : (x : ℕ) (xs : List ℕ) (m : IsIn x xs) → length xs ≡ length (rest_of x xs m) + 1
rest_length x [] m = absurd m
rest_length x (y ∷ xs) (inl e) = omega arith
rest_length x (y ∷ xs) (inr m) = let r = rest_length x xs m in omega arith

-- distinct items of a list that have P are no more than those that have it
pub distinct_few : (P : ℕ → Type 0) (xs : List ℕ) (k : ℕ) → HowManyHave P xs k → (its : List ℕ) → ((n : ℕ) → occurrences n its ≤ 1) → ((n : ℕ) → IsIn n its → IsIn n xs × P n)
    → length its ≤ k
distinct_few P [] k h [] once all = omega arith
distinct_few P [] k h (x ∷ its) once all = absurd ((all x (inl refl)).0)
distinct_few P (x ∷ xs) k (inl (p, j, e, h)) its once all = elim (is_in x its) [
  | inl m ↦
      let few = distinct_few P xs j h (rest_of x its m) (λ n. let c = rest_count x its m n in omega arith) (λ n i. later n m i) in
      let l = rest_length x its m in omega arith
  | inr none ↦ let few = distinct_few P xs j h its once (λ n i. elim ((all n i).0) [ inl same ↦ absurd (none (subst (λ (w : ℕ). IsIn w its) (sym same) i)) | inr m ↦ (m, (all n i).1) ]) in omega arith
]
  where
    later : (n : ℕ) (m : IsIn x its) → IsIn n (rest_of x its m) → IsIn n xs × P n
    later n m i =
        let c = rest_count x its m n in let some = IsIn-occurrences n (rest_of x its m) i in
        let there = occurrences-IsIn n its (omega arith) in
        elim ((all n there).0) [
          | inl same ↦ let first = occurrences-head n x (rest_of x its m) same in let few = once n in absurd (omega arith)
          | inr k ↦ (k, (all n there).1)
        ]
distinct_few P (x ∷ xs) k (inr (p, h)) its once all =
    distinct_few P xs k h its once (λ n i. elim ((all n i).0) [ inl same ↦ absurd (p (subst P (sym same) ((all n i).1))) | inr m ↦ (m, (all n i).1) ])

-- where a list is no longer than another, of which it has each number at least as often, it has each just as often
less_or_more : (its more : List ℕ) → ((n : ℕ) → occurrences n its ≤ occurrences n more) → length more ≤ length its → (n : ℕ) → occurrences n more ≡ occurrences n its
less_or_more [] [] all short n = refl
less_or_more [] (y ∷ more) all short n = absurd (omega arith)
less_or_more (x ∷ its) more all short n =
    let m = occurrences-IsIn x more (let h = occurrences-head x x its refl in let a = all x in omega arith) in
    let l = rest_length x more m in
    let r = less_or_more its (rest_of x more m) (λ k. let a = all k in let c = rest_count x more m k in omega arith) (omega arith) n in
    let c = rest_count x more m n in omega arith

-- the same where the other's numbers are distinct and all in the list
pub same_counts : (its more : List ℕ) → ((n : ℕ) → occurrences n its ≤ 1) → ((n : ℕ) → IsIn n its → IsIn n more) → length more ≤ length its
    → (n : ℕ) → occurrences n more ≡ occurrences n its
same_counts its more once all short = less_or_more its more (λ n. elim (is_in n its) [
  | inl m ↦ let o = once n in let k = IsIn-occurrences n more (all n m) in omega arith
  | inr none ↦ let z = occurrences-absent n its none in omega arith
]) short
