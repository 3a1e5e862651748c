-- What one conjunction does, from what placing its pair does.
use Rattle.std.proofs.Common.{◌≡◌, ℕ, ◌+◌, ◌<◌, ◌^◌, ◌⊎◌, inl, inr, ◌&&◌, List, [], ◌∷◌, slice_get, Some, Ok, Err, IfOk, OnErr, Bool, true, false, nat_lt, if◌then◌else◌, refl, sym, ◌∙◌, ap, subst, arith, length-append}
use Rattle.std.specs.declared.result.Result.{Result}
use Rattle.pulse_ids.specs.Ids.{NodeLit}
use Rattle.pulse_ids.specs.declared.memory.NoMemory.{NoMemory}
use Rattle.aig_core.specs.declared.pairs.Pair.{Pair}
use Rattle.aig_core.specs.Folds.{positive, IsFoldable}
use Rattle.aig_core.specs.Graphs.{PlainGraph, conjunction, nodes_of, first_conjunction, count_of, with_pair}
use Rattle.aig_core.specs.Growth.{Grows}
use Rattle.aig_core.specs.Pairs.{literal_code, pair_of}
use Rattle.aig_core.specs.Tidy.{IsTidy, IsKept, IsAbsent}
use Rattle.aig_core.specs.Values.{value_of}
use Rattle.aig_core.proofs.CallerLemmas.{slice_get-left, slice_get_bound}
use Rattle.aig_core.proofs.NodeLemmas.{length_nodes, nodes-with_pair}
use Rattle.aig_core.proofs.ValueLemmas.{value-conjunction, value-kept, value-added}
use Rattle.aig_core.proofs.FoldLemmas.{folds_swapped, and_swapped}
use Rattle.aig_core.proofs.PairLemmas.{placed_or_missing}

-- a kept graph has few nodes
pub count_bound : (graph : PlainGraph) → IsKept graph → count_of graph < 2 ^ 31
count_bound graph kept = omega (arith, kept.inputs_fit, kept.latches_fit, kept.pairs_fit)

pub grows_same : (old new : PlainGraph) → new ≡ old → Grows old new
grows_same old new e = subst (λ graph. Grows old graph) (sym e) (record {
  inputs = refl;
  latches = refl;
  at_least = omega arith;
  at_most = omega arith;
  nodes = λ number h. refl;
  values = λ state vector literal h. refl;
})

grows_added : (old : PlainGraph) (pair : Pair) → Grows old (with_pair old pair)
grows_added old pair =
    let more = length-append old.pairs (pair ∷ []) in
    record {
      inputs = refl;
      latches = refl;
      at_least = omega (arith, more);
      at_most = omega (arith, more);
      nodes = λ number h. ap (λ nodes. slice_get nodes number) (nodes-with_pair old pair) ∙ slice_get-left (nodes_of old) (conjunction pair ∷ []) number (omega (arith, h, length_nodes old));
      values = λ state vector literal h. value-kept state vector old pair literal h;
    }

-- the pair is there
abbrev pub IsFound : PlainGraph → PlainGraph → Pair → NodeLit → Type 0
IsFound old new pair literal =
    (place : ℕ) × (slice_get old.pairs place ≡ Some pair) × (literal ≡ positive (first_conjunction old + place)) × (new ≡ old)

-- the pair isn't there, and is added
abbrev pub IsAdded : PlainGraph → PlainGraph → Pair → NodeLit → Type 0
IsAdded old new pair literal =
    IsAbsent old pair × (literal ≡ positive (count_of old)) × (new ≡ with_pair old pair)

-- what the clauses of placing say of each answer
pub record Places (old new : PlainGraph) (pair : Pair) (result : Result NodeLit NoMemory) : Type 0 where
  pub found : (place : ℕ) → slice_get old.pairs place ≡ Some pair → (result ≡ Ok (positive (first_conjunction old + place))) × (new ≡ old)
  pub added : IsAbsent old pair → IfOk result (λ literal. (literal ≡ positive (count_of old)) × (new ≡ with_pair old pair))
  pub err : OnErr result (new ≡ old)

module _ (old new : PlainGraph) (pair : Pair) where
  outcome : (literal : NodeLit) → Places old new pair (Ok literal) → IsFound old new pair literal ⊎ IsAdded old new pair literal
  outcome literal places = elim (placed_or_missing old.pairs pair) [
    | inl at ↦ let found = places.found at.0 at.1 in let same : literal ≡ positive (first_conjunction old + at.0) = let given = found.0 in cc in inl (at.0, at.1, same, found.1)
    | inr absent ↦ let added = places.added absent in inr (absent, added.0, added.1)
  ]

  pub placed_grows : (result : Result NodeLit NoMemory) → Places old new pair result → Grows old new
  placed_grows (Ok literal) places = elim (outcome literal places) [
    | inl found ↦ grows_same old new found.3
    | inr added ↦ subst (λ graph. Grows old graph) (sym added.2) (grows_added old pair)
  ]
  placed_grows (Err e) places = grows_same old new places.err

  pub placed_within : (result : Result NodeLit NoMemory) → Places old new pair result → IfOk result (λ literal. literal.id.number < count_of new)
  placed_within (Err e) places = tt
  placed_within (Ok literal) places = elim (outcome literal places) [
    | inl found ↦ omega (arith, slice_get_bound old.pairs found.0 pair found.1, ap (λ l. l.id.number) found.2, ap count_of found.3)
    | inr added ↦ omega (arith, ap (λ l. l.id.number) added.1, ap count_of added.2, length-append old.pairs (pair ∷ []))
  ]

  pub placed_value : (result : Result NodeLit NoMemory) → Places old new pair result → IsTidy old → IfOk result
      (λ literal. (state vector : List Bool) → value_of new state vector literal ≡ (value_of old state vector pair.low && value_of old state vector pair.high))
  placed_value (Err e) places tidy = tt
  placed_value (Ok literal) places tidy = λ state vector. elim (outcome literal places) [
    | inl found ↦ ap (λ graph. value_of graph state vector literal) found.3 ∙ ap (value_of old state vector) found.2
        ∙ value-conjunction state vector old found.0 pair found.1 (tidy.each found.0 pair found.1).low_before (tidy.each found.0 pair found.1).high_before
    | inr added ↦ ap (λ graph. value_of graph state vector literal) added.2 ∙ ap (value_of (with_pair old pair) state vector) added.1 ∙ value-added state vector old pair
  ]

-- the pair by the test of its order
abbrev pair_by : Bool → NodeLit → NodeLit → Pair
pair_by lower a b = if lower then record { low = a; high = b } else record { low = b; high = a }

-- both orders have one conjunction
pub pair_value : (graph : PlainGraph) (state vector : List Bool) (a b : NodeLit) →
    (value_of graph state vector (pair_of a b).low && value_of graph state vector (pair_of a b).high) ≡ (value_of graph state vector a && value_of graph state vector b)
pair_value graph state vector a b = go (nat_lt (literal_code a) (literal_code b))
  where
    go : (t : Bool) → (value_of graph state vector (pair_by t a b).low && value_of graph state vector (pair_by t a b).high) ≡ (value_of graph state vector a && value_of graph state vector b)
    go true = refl
    go false = and_swapped (value_of graph state vector b) (value_of graph state vector a)

-- a pair that folds isn't in a tidy graph
pub foldable_absent : (graph : PlainGraph) (a b : NodeLit) → IsTidy graph → IsFoldable a b → IsAbsent graph (pair_of a b)
foldable_absent graph a b tidy foldable = λ place at.
    (tidy.each place (pair_of a b) at).never_folds (go (nat_lt (literal_code a) (literal_code b)))
  where
    go : (t : Bool) → IsFoldable (pair_by t a b).low (pair_by t a b).high
    go true = foldable
    go false = folds_swapped a b foldable

-- placing the pair of two literals gives the conjunction of their values
pub and_value : (old new : PlainGraph) (a b : NodeLit) (pair : Pair) (result : Result NodeLit NoMemory) → pair ≡ pair_of a b → Places old new pair result → IsTidy old
    → IfOk result (λ literal. (state vector : List Bool) → value_of new state vector literal ≡ (value_of old state vector a && value_of old state vector b))
and_value old new a b pair (Err e) is places tidy = tt
and_value old new a b pair (Ok literal) is places tidy = λ state vector.
    placed_value old new pair (Ok literal) places tidy state vector ∙ ap (λ p. value_of old state vector p.low && value_of old state vector p.high) is ∙ pair_value old state vector a b
