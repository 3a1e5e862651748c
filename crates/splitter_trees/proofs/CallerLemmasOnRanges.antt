-- Numbers in a row: the lemmas that the crates above may cite.
use Rattle.std.proofs.Common.{◌≡◌, ◌≤◌, ◌<◌, ◌+◌, ℕ, zero, suc, List, ◌∷◌, ◌++◌, inl, inr, ap, refl, arith}
use Rattle.std.proofs.lemmas.Bool.{cases_eq}
use Rattle.std.specs.List.{range_with_len}
use Rattle.pulse_ids.specs.Lists.{occurrences}
use Rattle.pulse_ids.proofs.CallerLemmasOnCounts.{test_same, test_other}

pub range-append : (first m n : ℕ) → range_with_len first (m + n) ≡ range_with_len first m ++ range_with_len (first + m) n
range-append first zero n = let a : 0 + n ≡ n = omega arith in let b : first + 0 ≡ first = omega arith in rw (a, b) refl
range-append first (suc m) n =
    let a : suc m + n ≡ suc (m + n) = omega arith in
    let b : first + suc m ≡ first + 1 + m = omega arith in
    rw (a, b) (ap (λ (l : List ℕ). first ∷ l) (range-append (first + 1) m n))

-- a number of the row is within it
pub range-within : (first n k : ℕ) → 1 ≤ occurrences k (range_with_len first n) → (first ≤ k) × (k < first + n)
range-within first zero k h = absurd (omega arith)
range-within first (suc n) k h = elim (cases_eq k first) [
  | inl e ↦ (omega arith, omega arith)
  | inr ne ↦ let r = range-within (first + 1) n k (omega (arith, test_other k first ne)) in (omega arith, omega arith)
]

-- a number below the row isn't in it
pub range-none_below : (first n k : ℕ) → k < first → occurrences k (range_with_len first n) ≡ 0
range-none_below first zero k low = refl
range-none_below first (suc n) k low =
    let r = range-none_below (first + 1) n k (omega arith) in
    omega (arith, test_other k first (λ e. absurd (omega arith)))

-- no number stands twice in a row
pub range-once : (first n k : ℕ) → occurrences k (range_with_len first n) ≤ 1
range-once first zero k = omega arith
range-once first (suc n) k = elim (cases_eq k first) [
  | inl e ↦ omega (arith, test_same k first e, range-none_below (first + 1) n k (omega arith))
  | inr ne ↦ let r = range-once (first + 1) n k in omega (arith, test_other k first ne)
]

-- each number within the row is in it
pub range-holds : (first n k : ℕ) → first ≤ k → k < first + n → occurrences k (range_with_len first n) ≡ 1
range-holds first zero k low high = absurd (omega arith)
range-holds first (suc n) k low high = elim (cases_eq k first) [
  | inl e ↦ omega (arith, test_same k first e, range-none_below (first + 1) n k (omega arith))
  | inr ne ↦ let r = range-holds (first + 1) n k (omega arith) (omega arith) in omega (arith, test_other k first ne)
]
