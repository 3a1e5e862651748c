-- How often numbers stand in lists, and how long a list of different numbers can be.
use Rattle.std.proofs.Common.{◌≡◌, ◌≢◌, ℕ, zero, suc, ◌+◌, ◌≤◌, ◌<◌, ◌⊎◌, inl, inr, List, [], ◌∷◌, ◌++◌, length, Bool, true, false, not, ◌==◌, if◌then◌else◌, refl, sym, arith}
use Rattle.std.proofs.lemmas.Bool.{cases_eq, cases_lt}
use Rattle.std.proofs.lemmas.Grind.{common_steps}
use Rattle.pulse_ids.specs.Lists.{occurrences}
use Rattle.pulse_ids.proofs.CallerLemmasOnCounts.{occurrences-append, one_if, test_other, test_same}

-- where two counts make 1, the other is 1 where the test doesn't hold
pub one_if-other : (test : Bool) (one other : ℕ) → one ≡ one_if test → one + other ≡ 1 → other ≡ one_if (not test)
one_if-other true one other e s = omega arith
one_if-other false one other e s = omega arith

-- one more at the end, tested from the other side
pub occurrences-last : (n x : ℕ) (xs : List ℕ) → occurrences n (xs ++ x ∷ []) ≡ (if x == n then occurrences n xs + 1 else occurrences n xs)
occurrences-last n x xs = go (cases_eq x n)
  where
    whole : occurrences n (xs ++ x ∷ []) ≡ occurrences n xs + ((if n == x then 1 else 0) + 0)
    whole = occurrences-append n xs (x ∷ [])

    go : (x ≡ n) ⊎ (x ≢ n) → occurrences n (xs ++ x ∷ []) ≡ (if x == n then occurrences n xs + 1 else occurrences n xs)
    go (inl e) = let t = test_same n x (sym e) in let w = whole in grind (arith, common_steps)
    go (inr ne) = let t = test_other n x (λ e. ne (sym e)) in let w = whole in grind (arith, common_steps)

-- the sum of a function over the numbers below one
abbrev total_below : (ℕ → ℕ) → ℕ → ℕ
total_below f zero = 0
total_below f (suc n) = total_below f n + f n

total_below-sum : (f g : ℕ → ℕ) (n : ℕ) → total_below (λ w. f w + g w) n ≡ total_below f n + total_below g n
total_below-sum f g zero = refl
total_below-sum f g (suc n) = let r = total_below-sum f g n in omega arith

total_below-zero : (n : ℕ) → total_below (λ w. 0) n ≡ 0
total_below-zero zero = refl
total_below-zero (suc n) = let r = total_below-zero n in omega arith

total_below-none : (x n : ℕ) → n ≤ x → total_below (λ w. if w == x then 1 else 0) n ≡ 0
total_below-none x zero h = refl
total_below-none x (suc n) h =
    let ne : n ≢ x = λ e. absurd (omega arith) in
    let r = total_below-none x n (omega arith) in
    let t = test_other n x ne in omega arith

total_below-one : (x n : ℕ) → x < n → total_below (λ w. if w == x then 1 else 0) n ≡ 1
total_below-one x zero h = absurd (omega arith)
total_below-one x (suc n) h = elim (cases_eq n x) [
  | inl e ↦ let t = test_same n x e in let r = total_below-none x n (omega arith) in omega arith
  | inr ne ↦ let t = test_other n x ne in let r = total_below-one x n (omega arith) in omega arith
]

total_below-most : (f : ℕ → ℕ) (n : ℕ) → ((w : ℕ) → f w ≤ 1) → total_below f n ≤ n
total_below-most f zero most = omega arith
total_below-most f (suc n) most = let r = total_below-most f n most in let m = most n in omega arith

length-total : (xs : List ℕ) (n : ℕ) → ((w : ℕ) → n ≤ w → occurrences w xs ≡ 0) → length xs ≡ total_below (λ w. occurrences w xs) n
length-total [] n low = sym (total_below-zero n)
length-total (x ∷ xs) n low = elim (cases_lt x n) [
  | inl lt ↦
      let s = total_below-sum (λ w. if w == x then 1 else 0) (λ w. occurrences w xs) n in
      let one = total_below-one x n lt in
      let r = length-total xs n (λ w le. let z = low w le in omega arith) in omega arith
  | inr le ↦ let z = low x le in let t = test_same x x refl in absurd (omega arith)
]

-- a list of different numbers below n has at most n of them
pub few : (xs : List ℕ) (n : ℕ) → ((w : ℕ) → occurrences w xs ≤ 1) → ((w : ℕ) → n ≤ w → occurrences w xs ≡ 0) → length xs ≤ n
few xs n once low =
    let l = length-total xs n low in let m = total_below-most (λ w. occurrences w xs) n once in omega arith
