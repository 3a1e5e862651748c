-- A tidy graph stays tidy when one pair is added.
use Rattle.std.proofs.Common.{◌≡◌, ◌≢◌, ℕ, zero, suc, ◌+◌, ◌<◌, ◌^◌, ◌⊎◌, inl, inr, List, [], ◌∷◌, ◌++◌, length, slice_get, Some, Bool, true, false, nat_lt, if◌then◌else◌, refl, sym, ◌∙◌, ap, subst, arith, length-append, ltb-true, ltb-false}
use Rattle.pulse_ids.specs.Ids.{NodeLit}
use Rattle.aig_core.specs.declared.pairs.Pair.{Pair}
use Rattle.aig_core.specs.Folds.{IsFoldable, same}
use Rattle.aig_core.specs.Graphs.{PlainGraph, first_conjunction, count_of, with_pair}
use Rattle.aig_core.specs.Pairs.{literal_code, pair_of}
use Rattle.aig_core.specs.Tidy.{IsTidyPair, IsTidy, IsKept, IsAbsent}
use Rattle.aig_core.proofs.FoldLemmas.{folds_swapped, code_exact}

-- an item of a list with one more is the last one or an earlier one
pub item_of_more : (pairs : List Pair) (last : Pair) (k : ℕ) (pair : Pair) → slice_get (pairs ++ last ∷ []) k ≡ Some pair → (slice_get pairs k ≡ Some pair) ⊎ ((k ≡ length pairs) × (last ≡ pair))
item_of_more [] last zero pair e = inr (refl, cc)
item_of_more [] last (suc k) pair e = absurd cc
item_of_more (first ∷ pairs) last zero pair e = inl e
item_of_more (first ∷ pairs) last (suc k) pair e = elim (item_of_more pairs last k pair e) [
  | inl at ↦ inl at
  | inr at ↦ inr (ap suc at.0, at.1)
]

pub tidy_added : (graph : PlainGraph) (pair : Pair) → IsTidy graph → IsTidyPair (count_of graph) pair → IsAbsent graph pair → IsTidy (with_pair graph pair)
tidy_added graph pair tidy may absent = record { each = each; once = once }
  where
    each : (place : ℕ) (item : Pair) → slice_get (graph.pairs ++ pair ∷ []) place ≡ Some item → IsTidyPair (first_conjunction graph + place) item
    each place item e = elim (item_of_more graph.pairs pair place item e) [
      | inl at ↦ tidy.each place item at
      | inr at ↦ subst (λ p. IsTidyPair (first_conjunction graph + place) p) at.1 (subst (λ k. IsTidyPair (first_conjunction graph + k) pair) (sym at.0) may)
    ]

    once : (one other : ℕ) (item : Pair) → slice_get (graph.pairs ++ pair ∷ []) one ≡ Some item → slice_get (graph.pairs ++ pair ∷ []) other ≡ Some item → one ≡ other
    once one other item e f =
        elim (item_of_more graph.pairs pair one item e) [
          | inl at ↦ elim (item_of_more graph.pairs pair other item f) [
            | inl to ↦ tidy.once one other item at to
            | inr to ↦ absurd (absent one (at ∙ ap Some (sym to.1)))
          ]
          | inr at ↦ elim (item_of_more graph.pairs pair other item f) [
            | inl to ↦ absurd (absent other (to ∙ ap Some (sym at.1)))
            | inr to ↦ at.0 ∙ sym to.0
          ]
        ]

pub kept_added : (graph : PlainGraph) (pair : Pair) → IsKept graph → length graph.pairs < 2 ^ 18 → IsTidyPair (count_of graph) pair → IsAbsent graph pair → IsKept (with_pair graph pair)
kept_added graph pair kept room may absent = record {
  tidy = tidy_added graph pair kept.tidy may absent;
  inputs_fit = kept.inputs_fit;
  latches_fit = kept.latches_fit;
  pairs_fit = omega (arith, room, length-append graph.pairs (pair ∷ []));
}

-- two literals that don't fold may stand at any later number, in order
pub ordered_tidy : (a b : NodeLit) (number : ℕ) → a.id.number < number → b.id.number < number → (IsFoldable a b → ⊥) → IsTidyPair number (pair_of a b)
ordered_tidy a b number ha hb never = go (nat_lt (literal_code a) (literal_code b)) refl
  where
    go : (t : Bool) → nat_lt (literal_code a) (literal_code b) ≡ t → IsTidyPair number (if t then record { low = a; high = b } else record { low = b; high = a })
    go true e = record {
      ordered = ltb-true (literal_code a) (literal_code b) e;
      low_before = ha;
      high_before = hb;
      never_folds = never;
    }
    go false e =
        let apart : literal_code a ≢ literal_code b = λ codes. never (a, same (code_exact a b codes) refl) in
        record {
          ordered = omega (arith, apart, ltb-false (literal_code a) (literal_code b) e);
          low_before = hb;
          high_before = ha;
          never_folds = λ foldable. never (folds_swapped b a foldable);
        }
