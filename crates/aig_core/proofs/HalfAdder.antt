-- The facts on the half adder.
use Rattle.std.proofs.Common.{◌≡◌, ◌<◌, [], ◌∷◌, Bool, true, false, not, if◌then◌else◌, refl, arith}
use Rattle.aig_core.specs.Folds.{positive, complement, zero_second, one_first, same, opposite}
use Rattle.aig_core.specs.Graphs.{PlainGraph, with_pair}
use Rattle.aig_core.specs.Pairs.{pair_of}
use Rattle.aig_core.specs.Tidy.{IsTidy}
use Rattle.aig_core.specs.Examples.{two_inputs, half_adder, inputs_pair, swapped_pair, AddsTwoBits, TidyIsJudged, FoldsAreJudged}
use Rattle.aig_core.specs.Values.{value_of}
use Rattle.aig_core.proofs.FoldLemmas.{never_folds}
use Rattle.aig_core.proofs.PairLemmas.{missing_from_any}
use Rattle.aig_core.proofs.TidyLemmas.{tidy_added, ordered_tidy}

sum_is : (a b : Bool) → value_of half_adder [] (a ∷ b ∷ []) (positive 5) ≡ (if a then not b else b)
sum_is true true = refl
sum_is true false = refl
sum_is false true = refl
sum_is false false = refl

same_is : (a b : Bool) → value_of half_adder [] (a ∷ b ∷ []) (complement (positive 5)) ≡ (if a then b else not b)
same_is true true = refl
same_is true false = refl
same_is false true = refl
same_is false false = refl

pub adds_two_bits : AddsTwoBits
adds_two_bits = record { bits = λ a b. refl; sum = sum_is; same = same_is }

tidy_two_inputs : IsTidy two_inputs
tidy_two_inputs = record {
  each = λ place pair e. absurd cc;
  once = λ one other pair e f. absurd cc;
}

tidy_half_adder : IsTidy half_adder
tidy_half_adder =
    let one : PlainGraph = with_pair two_inputs (pair_of (positive 1) (positive 2)) in
    let two : PlainGraph = with_pair one (pair_of (complement (positive 2)) (complement (positive 1))) in
    let tidy_one : IsTidy one = tidy_added two_inputs (pair_of (positive 1) (positive 2)) tidy_two_inputs
    (ordered_tidy (positive 1) (positive 2) 3 (omega arith) (omega arith) (never_folds (positive 1) (positive 2) refl))
    (missing_from_any two_inputs.pairs (pair_of (positive 1) (positive 2)) refl) in
    let tidy_two : IsTidy two = tidy_added one (pair_of (complement (positive 2)) (complement (positive 1))) tidy_one
    (ordered_tidy (complement (positive 2)) (complement (positive 1)) 4 (omega arith) (omega arith)
    (never_folds (complement (positive 2)) (complement (positive 1)) refl)) (missing_from_any one.pairs (pair_of (complement (positive 2)) (complement (positive 1))) refl) in
    tidy_added two (pair_of (complement (positive 3)) (complement (positive 4))) tidy_two
    (ordered_tidy (complement (positive 3)) (complement (positive 4)) 5 (omega arith) (omega arith)
    (never_folds (complement (positive 3)) (complement (positive 4)) refl)) (missing_from_any two.pairs (pair_of (complement (positive 3)) (complement (positive 4))) refl)

pub tidy_is_judged : TidyIsJudged
tidy_is_judged = record {
  half_adder_is = tidy_half_adder;
  twice = λ tidy. let e : 0 ≡ 1 = tidy.once 0 1 inputs_pair refl refl in absurd (omega (arith, e));
  swapped = λ tidy. let h : 4 < 2 = (tidy.each 0 swapped_pair refl).ordered in absurd (omega (arith, h));
}

pub folds_are_judged : FoldsAreJudged
folds_are_judged = record {
  with_zero = zero_second refl refl;
  with_one = one_first refl refl;
  with_itself = same refl refl;
  with_complement = opposite refl refl;
  inputs = never_folds (positive 1) (complement (positive 2)) refl;
}
