-- The number of a node, from what stands there.
use Rattle.std.proofs.Common.{◌≡◌, ℕ, zero, suc, ◌+◌, ◌-◌, ◌<◌, inl, inr, slice_get, Some, refl, ◌∙◌, ap, arith}
use Rattle.std.proofs.lemmas.Bool.{cases_lt}
use Rattle.aig_core.specs.declared.pairs.Pair.{Pair}
use Rattle.aig_core.specs.declared.nodes.Node.{Node}
use Rattle.aig_core.specs.declared.nodes.Node.TheVariants.{False, Input, Latch, And}
use Rattle.aig_core.specs.Graphs.{PlainGraph, conjunction, nodes_of, first_conjunction}
use Rattle.aig_core.specs.Laws.{NodeZeroIsConstant, InputsFollow, LatchesFollow, ConjunctionsAreLast, NodesAreCounted, ConjunctionsArePairs}
use Rattle.aig_core.proofs.CallerLemmas.{slice_get_bound, slice_get_item}
use Rattle.aig_core.proofs.NodeLemmas.{length_nodes, node-input-at, node-latch-at, node-conjunction}

-- what a node at a number may be
data StandsAt (graph : PlainGraph) (number : ℕ) (node : Node) : Type 0 where
  at_constant : number ≡ 0 → node ≡ False → StandsAt graph number node
  at_input : (k : ℕ) → k < graph.inputs → number ≡ 1 + k → node ≡ Input k → StandsAt graph number node
  at_latch : (k : ℕ) → k < graph.latches → number ≡ 1 + graph.inputs + k → node ≡ Latch k → StandsAt graph number node
  at_pair : (place : ℕ) (pair : Pair) → number ≡ first_conjunction graph + place → slice_get graph.pairs place ≡ Some pair → node ≡ conjunction pair
      → StandsAt graph number node

node-pair-at : (graph : PlainGraph) (number place : ℕ) (pair : Pair) → slice_get graph.pairs place ≡ Some pair → number ≡ first_conjunction graph + place
    → slice_get (nodes_of graph) number ≡ Some (conjunction pair)
node-pair-at graph number place pair at e = ap (slice_get (nodes_of graph)) e ∙ node-conjunction graph place pair at

stands : (graph : PlainGraph) (number : ℕ) (node : Node) → slice_get (nodes_of graph) number ≡ Some node → StandsAt graph number node
stands graph zero node e = at_constant refl cc
stands graph (suc k) node e = elim (cases_lt k graph.inputs) [
  | inl input ↦
      let there = node-input-at graph (suc k) k input (omega arith) in at_input k input (omega arith) cc
  | inr behind ↦ elim (cases_lt (k - graph.inputs) graph.latches) [
    | inl latch ↦
        let there = node-latch-at graph (suc k) (k - graph.inputs) latch (omega (arith, behind)) in
        at_latch (k - graph.inputs) latch (omega (arith, behind)) cc
    | inr late ↦
        let bound = slice_get_bound (nodes_of graph) (suc k) node e in
        let is : suc k ≡ first_conjunction graph + (suc k - first_conjunction graph) = omega (arith, behind, late) in
        let pair = slice_get_item graph.pairs (suc k - first_conjunction graph) (omega (arith, bound, is, length_nodes graph)) in
        let there = node-pair-at graph (suc k) (suc k - first_conjunction graph) pair.0 pair.1 is in
        at_pair (suc k - first_conjunction graph) pair.0 is pair.1 cc
  ]
]

pub node_zero_is_constant : NodeZeroIsConstant
node_zero_is_constant graph number = (λ e. only (stands graph number False e), λ e. ap (slice_get (nodes_of graph)) e)
  where
    only : StandsAt graph number False → number ≡ 0
    only (at_constant n e) = n
    only (at_input k lt n e) = absurd cc
    only (at_latch k lt n e) = absurd cc
    only (at_pair place pair n at e) = absurd cc

pub inputs_follow : InputsFollow
inputs_follow graph number k = (λ e. only (stands graph number (Input k) e), λ p. node-input-at graph number k p.0 p.1)
  where
    only : StandsAt graph number (Input k) → (k < graph.inputs) × (number ≡ 1 + k)
    only (at_constant n e) = absurd cc
    only (at_input other lt n e) = let same : other ≡ k = cc in (omega (arith, lt, same), omega (arith, n, same))
    only (at_latch other lt n e) = absurd cc
    only (at_pair place pair n at e) = absurd cc

pub latches_follow : LatchesFollow
latches_follow graph number k = (λ e. only (stands graph number (Latch k) e), λ p. node-latch-at graph number k p.0 p.1)
  where
    only : StandsAt graph number (Latch k) → (k < graph.latches) × (number ≡ 1 + graph.inputs + k)
    only (at_constant n e) = absurd cc
    only (at_input other lt n e) = absurd cc
    only (at_latch other lt n e) = let same : other ≡ k = cc in (omega (arith, lt, same), omega (arith, n, same))
    only (at_pair place pair n at e) = absurd cc

pub conjunctions_are_pairs : ConjunctionsArePairs
conjunctions_are_pairs graph number low high e = only (stands graph number (And low high) e)
  where
    only : StandsAt graph number (And low high)
        → (place : ℕ) × (number ≡ first_conjunction graph + place) × (slice_get graph.pairs place ≡ Some (record { low = low; high = high }))
    only (at_constant n f) = absurd cc
    only (at_input k lt n f) = absurd cc
    only (at_latch k lt n f) = absurd cc
    only (at_pair place pair n at f) =
        let same_low : pair.low ≡ low = cc in
        let same_high : pair.high ≡ high = cc in
        (place, n, at ∙ (λ i. Some (record { low = same_low i; high = same_high i })))

pub conjunctions_are_last : ConjunctionsAreLast
conjunctions_are_last graph number low high = (
  conjunctions_are_pairs graph number low high,
  λ p. node-pair-at graph number p.0 (record { low = low; high = high }) p.2 p.1,
)

pub nodes_are_counted : NodesAreCounted
nodes_are_counted graph = length_nodes graph
