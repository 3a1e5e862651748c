-- A small graph, and facts on it that show what the definitions mean.
use Rattle.std.specs.Prelude.{◌≡◌, [], ◌∷◌, Bool, false, not, ◌&&◌, if◌then◌else◌}
use Rattle.aig_core.specs.declared.pairs.Pair.{Pair}
use Rattle.aig_core.specs.Folds.{positive, complement, zero_literal, one_literal, FoldsTo, IsFoldable}
use Rattle.aig_core.specs.Graphs.{PlainGraph, with_pair}
use Rattle.aig_core.specs.Pairs.{pair_of}
use Rattle.aig_core.specs.Tidy.{IsTidy}
use Rattle.aig_core.specs.Values.{bits_of, value_of}

-- two inputs, which are nodes 1 and 2
abbrev pub two_inputs : PlainGraph
two_inputs = record { inputs = 2; latches = 0; pairs = [] }

-- node 3 is the conjunction of the inputs, node 4 that of their complements, and node 5 that of both complements
abbrev pub half_adder : PlainGraph
half_adder =
    with_pair (with_pair (with_pair two_inputs (pair_of (positive 1) (positive 2))) (pair_of (complement (positive 2)) (complement (positive 1))))
    (pair_of (complement (positive 3)) (complement (positive 4)))

-- node 3 is the carry, and node 5 is 1 where the inputs differ
pub record AddsTwoBits : Type 0 where
  pub bits : (a b : Bool) → bits_of half_adder [] (a ∷ b ∷ []) ≡ false ∷ a ∷ b ∷ (a && b) ∷ (not a && not b) ∷ (not (a && b) && not (not a && not b)) ∷ []
  pub sum : (a b : Bool) → value_of half_adder [] (a ∷ b ∷ []) (positive 5) ≡ (if a then not b else b)
  pub same : (a b : Bool) → value_of half_adder [] (a ∷ b ∷ []) (complement (positive 5)) ≡ (if a then b else not b)

-- the inputs' pair
abbrev pub inputs_pair : Pair
inputs_pair = record { low = positive 1; high = positive 2 }

-- the same with the higher code first
abbrev pub swapped_pair : Pair
swapped_pair = record { low = positive 2; high = positive 1 }

-- the graph is tidy; one with a pair twice, or with the higher code first, isn't
pub record TidyIsJudged : Type 0 where
  pub half_adder_is : IsTidy half_adder
  pub twice : IsTidy (with_pair (with_pair two_inputs inputs_pair) inputs_pair) → ⊥
  pub swapped : IsTidy (with_pair two_inputs swapped_pair) → ⊥

-- a literal with 0, with 1, with itself and with its complement folds, and two inputs don't
pub record FoldsAreJudged : Type 0 where
  pub with_zero : FoldsTo (positive 1) zero_literal zero_literal
  pub with_one : FoldsTo one_literal (positive 1) (positive 1)
  pub with_itself : FoldsTo (positive 1) (positive 1) (positive 1)
  pub with_complement : FoldsTo (complement (positive 1)) (positive 1) zero_literal
  pub inputs : IsFoldable (positive 1) (complement (positive 2)) → ⊥
