-- Graphs as plain lists and numbers, and their nodes.
use Rattle.std.specs.Prelude.{ℕ, ◌+◌, List, [], ◌∷◌, ◌++◌, map, length}
use Rattle.std.specs.List.{range_with_len}
use Rattle.aig_core.specs.declared.pairs.Pair.{Pair}
use Rattle.aig_core.specs.declared.nodes.Node.{Node}
use Rattle.aig_core.specs.declared.nodes.Node.TheVariants.{False, Input, Latch, And}

-- the numbers of inputs and latches, and the pairs of the conjunctions in order
pub record PlainGraph : Type 0 where
  pub inputs : ℕ
  pub latches : ℕ
  pub pairs : List Pair

-- the node of a pair
abbrev pub conjunction : Pair → Node
conjunction pair = And pair.low pair.high

-- all nodes: the constant, the inputs, the latches and the conjunctions
abbrev pub nodes_of : PlainGraph → List Node
nodes_of graph =
    False ∷ (map Input (range_with_len 0 graph.inputs) ++ (map Latch (range_with_len 0 graph.latches) ++ map conjunction graph.pairs))

-- the number of the first conjunction, there or to come
abbrev pub first_conjunction : PlainGraph → ℕ
first_conjunction graph = 1 + graph.inputs + graph.latches

-- how many nodes there are
abbrev pub count_of : PlainGraph → ℕ
count_of graph = first_conjunction graph + length graph.pairs

-- the graph with one more conjunction, last
abbrev pub with_pair : PlainGraph → Pair → PlainGraph
with_pair graph pair =
    record { inputs = graph.inputs; latches = graph.latches; pairs = graph.pairs ++ pair ∷ [] }
