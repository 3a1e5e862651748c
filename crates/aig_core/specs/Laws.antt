-- Where the nodes of a graph stand, and that each node of a tidy graph has the bit of what it stands for.
use Rattle.std.specs.Prelude.{◌≡◌, ◌↔◌, ℕ, ◌+◌, ◌<◌, List, Bool, slice_get, Some, length}
use Rattle.pulse_ids.specs.Ids.{NodeLit}
use Rattle.aig_core.specs.declared.nodes.Node.{Node}
use Rattle.aig_core.specs.declared.nodes.Node.TheVariants.{False, Input, Latch, And}
use Rattle.aig_core.specs.Graphs.{PlainGraph, nodes_of, first_conjunction, count_of}
use Rattle.aig_core.specs.Tidy.{IsTidy}
use Rattle.aig_core.specs.Values.{node_bit, bits_of}
use Rattle.pulse_ids.specs.Lists.{bit_at}

-- the constant is node 0, and no other node
abbrev pub NodeZeroIsConstant : Type 0
NodeZeroIsConstant = (graph : PlainGraph) (number : ℕ) → (slice_get (nodes_of graph) number ≡ Some False) ↔ (number ≡ 0)

-- each input is the node of its number behind the constant, and no other node is an input
abbrev pub InputsFollow : Type 0
InputsFollow =
    (graph : PlainGraph) (number k : ℕ)
    → (slice_get (nodes_of graph) number ≡ Some (Input k)) ↔ ((k < graph.inputs) × (number ≡ 1 + k))

-- each latch is the node of its number behind the inputs, and no other node is a latch
abbrev pub LatchesFollow : Type 0
LatchesFollow =
    (graph : PlainGraph) (number k : ℕ)
    → (slice_get (nodes_of graph) number ≡ Some (Latch k)) ↔ ((k < graph.latches) × (number ≡ 1 + graph.inputs + k))

-- each conjunction is the node of its pair's place behind the latches, and no other node is a conjunction
abbrev pub ConjunctionsAreLast : Type 0
ConjunctionsAreLast =
    (graph : PlainGraph) (number : ℕ) (low high : NodeLit)
    → (slice_get (nodes_of graph) number ≡ Some (And low high)) ↔
    ((place : ℕ) × (number ≡ first_conjunction graph + place) × (slice_get graph.pairs place ≡ Some (record { low = low; high = high })))

-- the numbers of nodes are those below the count
abbrev pub NodesAreCounted : Type 0
NodesAreCounted = (graph : PlainGraph) → length (nodes_of graph) ≡ count_of graph

-- each conjunction among the nodes is one of the pairs, at its place
abbrev pub ConjunctionsArePairs : Type 0
ConjunctionsArePairs =
    (graph : PlainGraph) (number : ℕ) (low high : NodeLit) → slice_get (nodes_of graph) number ≡ Some (And low high)
    → (place : ℕ) × (number ≡ first_conjunction graph + place) × (slice_get graph.pairs place ≡ Some (record { low = low; high = high }))

-- each node's bit is that of what it stands for, by the bits of all nodes
abbrev pub NodesHaveTheirBits : Type 0
NodesHaveTheirBits =
    (graph : PlainGraph) → IsTidy graph → (state vector : List Bool) (number : ℕ) (node : Node)
    → slice_get (nodes_of graph) number ≡ Some node
    → bit_at (bits_of graph state vector) number ≡ node_bit state vector (bits_of graph state vector) node
