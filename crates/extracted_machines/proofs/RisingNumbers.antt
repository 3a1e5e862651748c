-- Numbers that rise by one.
use Rattle.std.proofs.Common.{◌≡◌, ◌<◌, ◌≤◌, ◌+◌, ℕ, zero, suc, [], ◌∷◌, ◌++◌, length, refl, ◌∙◌, ap, inl, inr, arith}
use Rattle.std.proofs.lemmas.Bool.{cases_eq}
use Rattle.pulse_ids.specs.Lists.{IsIn, occurrences}
use Rattle.pulse_ids.proofs.CallerLemmasOnCounts.{test_same, test_other, occurrences-absent}
use Rattle.extracted_machines.specs.Machines.{numbers_from}

-- numbers from one on
pub numbers-in : (first count n : ℕ) → first ≤ n → n < first + count → IsIn n (numbers_from first count)
numbers-in first zero n low high = absurd (omega arith)
numbers-in first (suc count) n low high = elim (cases_eq first n) [
  | inl same ↦ inl same
  | inr other ↦ inr (numbers-in (first + 1) count n (omega arith) (omega arith))
]

pub numbers-low : (first count n : ℕ) → IsIn n (numbers_from first count) → (first ≤ n) × (n < first + count)
numbers-low first zero n h = absurd h
numbers-low first (suc count) n (inl e) = (omega (arith, e), omega (arith, e))
numbers-low first (suc count) n (inr h) = let r = numbers-low (first + 1) count n h in (omega (arith, r.0), omega (arith, r.1))

pub numbers-once : (first count n : ℕ) → occurrences n (numbers_from first count) ≤ 1
numbers-once first zero n = omega arith
numbers-once first (suc count) n = elim (cases_eq n first) [
  | inl same ↦
      let none = occurrences-absent n (numbers_from (first + 1) count) (λ h. let r = numbers-low (first + 1) count n h in omega (arith, r.0, same)) in
      let one = test_same n first same in
      omega arith
  | inr other ↦
      let zero_ = test_other n first other in
      let rest = numbers-once (first + 1) count n in
      omega arith
]

pub numbers-append : (first a b : ℕ) → numbers_from first a ++ numbers_from (first + a) b ≡ numbers_from first (a + b)
numbers-append first zero b =
    let e : first + 0 ≡ first = omega arith in
    let f : b ≡ 0 + b = omega arith in
    ap (λ n. numbers_from n b) e ∙ ap (numbers_from first) f
numbers-append first (suc a) b =
    let e : first + suc a ≡ (first + 1) + a = omega arith in
    let f : suc (a + b) ≡ suc a + b = omega arith in
    ap (λ l. first ∷ l) (ap (λ n. numbers_from (first + 1) a ++ numbers_from n b) e ∙ numbers-append (first + 1) a b) ∙ ap (numbers_from first) f

pub numbers-last : (first count : ℕ) → numbers_from first (suc count) ≡ numbers_from first count ++ (first + count) ∷ []
numbers-last first zero = ap (λ n. n ∷ []) (omega arith)
numbers-last first (suc count) =
    ap (λ l. first ∷ l) (numbers-last (first + 1) count ∙ ap (λ n. numbers_from (first + 1) count ++ n ∷ []) (omega arith))

pub length-numbers : (first count : ℕ) → length (numbers_from first count) ≡ count
length-numbers first zero = refl
length-numbers first (suc count) = ap suc (length-numbers (first + 1) count)
