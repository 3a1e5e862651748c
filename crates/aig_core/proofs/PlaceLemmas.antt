-- What placing a pair does to a graph.
use Rattle.std.proofs.Common.{◌≡◌, ℕ, ◌<◌, ◌≤◌, ◌^◌, List, length, slice_get, Some, sym, ap, subst, arith}
use Rattle.std.proofs.lemmas.Option.{slice_get_within}
use Rattle.aig_core.specs.declared.pairs.Pair.{Pair}
use Rattle.aig_core.specs.Graphs.{PlainGraph, count_of, with_pair}
use Rattle.aig_core.specs.KeptPairs.{IsPlaced, found, added}
use Rattle.aig_core.specs.Tidy.{IsTidyPair, IsKept, IsAbsent}
use Rattle.aig_core.proofs.TidyLemmas.{kept_added}

-- one of fewer than so many pairs, or the one behind them, has a low place
pub placed_low : (old new : List Pair) (pair : Pair) (place : ℕ) → IsPlaced old pair place new → length old < 2 ^ 18 → place ≤ 2 ^ 18
placed_low old new pair place (found at same) few = omega (arith, few, slice_get_within old place pair at)
placed_low old new pair place (added missing last more) few = omega (arith, few, last)

module _ (graph : PlainGraph) (pair : Pair) (place : ℕ) (new : List Pair) where
  abbrev same_ports : List Pair → PlainGraph
  same_ports pairs = record { inputs = graph.inputs; latches = graph.latches; pairs = pairs }

  pub kept_placed : IsPlaced graph.pairs pair place new → IsKept graph → length graph.pairs < 2 ^ 18 → IsTidyPair (count_of graph) pair → IsKept (same_ports new)
  kept_placed (found at same) kept room may =
      subst (λ pairs. IsKept (same_ports pairs)) (sym same) kept
  kept_placed (added missing last more) kept room may =
      subst (λ pairs. IsKept (same_ports pairs)) (sym more) (kept_added graph pair kept room may missing)

  -- a pair that is there is found at its place
  pub found_at : IsPlaced graph.pairs pair place new → IsKept graph → (other : ℕ) → slice_get graph.pairs other ≡ Some pair → (place ≡ other) × (same_ports new ≡ graph)
  found_at (found at same) kept other e = (kept.tidy.once place other pair at e, ap same_ports same)
  found_at (added missing last more) kept other e = absurd (missing other e)

  -- and one that isn't is added last
  pub added_at : IsPlaced graph.pairs pair place new → IsAbsent graph pair → (place ≡ length graph.pairs) × (same_ports new ≡ with_pair graph pair)
  added_at (found at same) absent = absurd (absent place at)
  added_at (added missing last more) absent = (last, ap same_ports more)
