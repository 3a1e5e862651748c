-- Tidy graphs, and what one conjunction does to a graph.
use Rattle.std.specs.Prelude.{◌≡◌, ℕ, ◌+◌, ◌<◌, ◌≤◌, length, slice_get, Some}
use Rattle.pulse_ids.specs.Quantities.{greatest_of}
use Rattle.pulse_ids.specs.declared.quantities.Quantity.TheVariants.{Inputs, Latches, Size}
use Rattle.aig_core.specs.declared.pairs.Pair.{Pair}
use Rattle.aig_core.specs.Folds.{IsFoldable}
use Rattle.aig_core.specs.Graphs.{PlainGraph, first_conjunction}
use Rattle.aig_core.specs.Pairs.{literal_code}

-- the pair may stand at the node of this number: lower code first, both nodes before it, and none of the four folds applies
pub record IsTidyPair (number : ℕ) (pair : Pair) : Type 0 where
  pub ordered : literal_code pair.low < literal_code pair.high
  pub low_before : pair.low.id.number < number
  pub high_before : pair.high.id.number < number
  pub never_folds : IsFoldable pair.low pair.high → ⊥

-- each conjunction's pair may stand there, and no two conjunctions hold the same pair
pub record IsTidy (graph : PlainGraph) : Type 0 where
  pub each : (place : ℕ) (pair : Pair) → slice_get graph.pairs place ≡ Some pair → IsTidyPair (first_conjunction graph + place) pair
  pub once : (one other : ℕ) (pair : Pair) → slice_get graph.pairs one ≡ Some pair → slice_get graph.pairs other ≡ Some pair → one ≡ other

-- a tidy graph with at most as many inputs, latches and conjunctions as are accepted
pub record IsKept (graph : PlainGraph) : Type 0 where
  pub tidy : IsTidy graph
  pub inputs_fit : graph.inputs ≤ greatest_of Inputs
  pub latches_fit : graph.latches ≤ greatest_of Latches
  pub pairs_fit : length graph.pairs ≤ greatest_of Size

-- no conjunction holds the pair
abbrev pub IsAbsent : PlainGraph → Pair → Type 0
IsAbsent graph pair = (place : ℕ) → slice_get graph.pairs place ≡ Some pair → ⊥
