-- The first of the turns in a heap.
use Rattle.std.proofs.Common.{◌≡◌, ◌≤◌, ◌<◌, ◌+◌, ◌^◌, ◌==◌, ℕ, inl, inr, List, [], ◌∷◌, map, false, refl, ap, arith, IsPermutation}
use Rattle.std.specs.List.{AllByRecursion}
use Rattle.std.specs.Ordering.{nat_cmp, is_lt, MatchOrdering}
use Rattle.std.specs.Cmp.{ranks}
use Rattle.std.specs.declared.cmp.Ordering.{Ordering}
use Rattle.std.specs.declared.cmp.Ordering.TheVariants.{Less, Equal, Greater}
use Rattle.std.specs.declared.cmp.Reverse.{Reverse}
use Rattle.std.proofs.lemmas.List.{length-map}
use Rattle.std.proofs.lemmas.List.Sorted.{length_permutation}
use Rattle.pulse_ids.specs.Lists.{IsIn, occurrences}
use Rattle.pulse_ids.proofs.CallerLemmasOnCounts.{one_if, test_same, occurrences-IsIn}
use Rattle.timed_world.specs.Times.{turn, IsFirstTaken}
use Rattle.timed_world.proofs.TurnLemmas.{mapped-permutation}

not_lower : (r : Ordering) (x y : ℕ) → MatchOrdering r (y < x) (y ≡ x) (x < y) → is_lt r ≡ false → x ≤ y
not_lower Less x y h e = absurd cc
not_lower Equal x y h e = omega (arith, h)
not_lower Greater x y h e = omega (arith, h)

-- what comes before all others is the lowest
lowest : (x : Reverse ℕ) (xs : List (Reverse ℕ)) → AllByRecursion (λ (y : Reverse ℕ). is_lt (nat_cmp y.0 x.0) ≡ false) xs → (other : ℕ)
    → IsIn other (map (λ (t : Reverse ℕ). t.0) xs) → x.0 ≤ other
lowest x [] bound other i = absurd i
lowest x (y ∷ ys) bound other (inl e) = let h = not_lower (nat_cmp y.0 x.0) x.0 y.0 (ranks y.0 x.0) bound.0 in omega (arith, h, e)
lowest x (y ∷ ys) bound other (inr i) = lowest x ys bound.1 other i

module _ (x : Reverse ℕ) (old new : List (Reverse ℕ)) (time wire : ℕ) (is : turn time wire ≡ x.0) (low : wire < 2 ^ 22) (moves : IsPermutation old (x ∷ new))
    (bound : AllByRecursion (λ (y : Reverse ℕ). is_lt (nat_cmp y.0 x.0) ≡ false) old) where
  counts : (n : ℕ) → occurrences n (map (λ (t : Reverse ℕ). t.0) old) ≡ occurrences n (map (λ (t : Reverse ℕ). t.0) new) + one_if (n == turn time wire)
  counts n =
      let moved : one_if (n == x.0) + occurrences n (map (λ (t : Reverse ℕ). t.0) new) ≡ occurrences n (map (λ (t : Reverse ℕ). t.0) old) =
      mapped-permutation (λ (t : Reverse ℕ). t.0) old (x ∷ new) moves n in
      let test : one_if (n == turn time wire) ≡ one_if (n == x.0) = ap (λ k. one_if (n == k)) is in omega (arith, moved, test)

  pub first_taken : IsFirstTaken (map (λ (t : Reverse ℕ). t.0) old) time wire (map (λ (t : Reverse ℕ). t.0) new)
  first_taken = record {
    small = low;
    among =
        let c = counts (turn time wire) in
        let t = test_same (turn time wire) (turn time wire) refl in
        occurrences-IsIn (turn time wire) (map (λ (t : Reverse ℕ). t.0) old) (omega arith);
    first = λ other i. let l = lowest x old bound other i in omega (arith, l, is);
    rest = counts;
    shorter =
        let l = length_permutation old (x ∷ new) moves in
        let a = length-map old (λ (t : Reverse ℕ). t.0) in
        let b = length-map new (λ (t : Reverse ℕ). t.0) in omega arith;
  }
