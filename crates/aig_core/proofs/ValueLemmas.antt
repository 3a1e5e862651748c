-- Bits of nodes: earlier ones stay when nodes are added, and each is that of its node.
use Rattle.std.proofs.Common.{◌≡◌, ℕ, zero, suc, ◌+◌, ◌<◌, List, [], ◌∷◌, ◌++◌, length, slice_get, Some, Bool, false, not, ◌&&◌, if◌then◌else◌, refl, sym, ◌∙◌, ap, arith, length-append}
use Rattle.std.proofs.lemmas.List.{get_or_append_left, get_or-append-add}
use Rattle.pulse_ids.specs.Ids.{NodeLit}
use Rattle.aig_core.specs.declared.pairs.Pair.{Pair}
use Rattle.aig_core.specs.declared.nodes.Node.{Node}
use Rattle.aig_core.specs.declared.nodes.Node.TheVariants.{False, Input, Latch, And}
use Rattle.aig_core.specs.Folds.{positive}
use Rattle.aig_core.specs.Graphs.{PlainGraph, conjunction, nodes_of, first_conjunction, count_of, with_pair}
use Rattle.aig_core.specs.Values.{literal_bit, node_bit, grown, bits_of, value_of}
use Rattle.pulse_ids.specs.Lists.{bit_at}
use Rattle.aig_core.proofs.NodeLemmas.{length_nodes, node-input, node-latch, node-conjunction, nodes-with_pair}

module _ (state vector : List Bool) where
  pub length-grown : (bits : List Bool) (nodes : List Node) → length (grown state vector bits nodes) ≡ length bits + length nodes
  length-grown bits [] = omega arith
  length-grown bits (node ∷ nodes) =
      let r = length-grown (bits ++ node_bit state vector bits node ∷ []) nodes in
      let l = length-append bits (node_bit state vector bits node ∷ []) in
      omega arith

  pub grown-append : (bits : List Bool) (front back : List Node) → grown state vector bits (front ++ back) ≡ grown state vector (grown state vector bits front) back
  grown-append bits [] back = refl
  grown-append bits (node ∷ front) back = grown-append (bits ++ node_bit state vector bits node ∷ []) front back

  -- no earlier bit changes
  pub grown-front : (bits : List Bool) (nodes : List Node) (k : ℕ) → k < length bits → bit_at (grown state vector bits nodes) k ≡ bit_at bits k
  grown-front bits [] k h = refl
  grown-front bits (node ∷ nodes) k h =
      let l = length-append bits (node_bit state vector bits node ∷ []) in
      grown-front (bits ++ node_bit state vector bits node ∷ []) nodes k (omega arith) ∙ get_or_append_left bits (node_bit state vector bits node ∷ []) false k h

  -- nor does the bit of a literal of an earlier node
  pub grown-literal : (bits : List Bool) (nodes : List Node) (literal : NodeLit) → literal.id.number < length bits → literal_bit (grown state vector bits nodes) literal ≡ literal_bit bits literal
  grown-literal bits nodes literal h = ap (λ bit. if literal.negated then not bit else bit) (grown-front bits nodes literal.id.number h)

  bit_after : (bits : List Bool) (bit : Bool) → bit_at (bits ++ bit ∷ []) (length bits) ≡ bit
  bit_after bits bit =
      let number : length bits ≡ length bits + 0 = omega arith in
      ap (bit_at (bits ++ bit ∷ [])) number ∙ get_or-append-add bits (bit ∷ []) 0 false

  -- the bit of the first node that is added
  pub grown-first : (bits : List Bool) (node : Node) (nodes : List Node) → bit_at (grown state vector bits (node ∷ nodes)) (length bits) ≡ node_bit state vector bits node
  grown-first bits node nodes =
      let l = length-append bits (node_bit state vector bits node ∷ []) in
      grown-front (bits ++ node_bit state vector bits node ∷ []) nodes (length bits) (omega arith) ∙ bit_after bits (node_bit state vector bits node)

  -- the bits before a node decide its bit
  abbrev pub Settles : ℕ → Node → Type 0
  Settles count node = (bits : List Bool) (nodes : List Node) → length bits ≡ count → node_bit state vector (grown state vector bits nodes) node ≡ node_bit state vector bits node

  -- the bit of any node that is added
  pub grown-at : (bits : List Bool) (nodes : List Node) (k count : ℕ) (node : Node) → slice_get nodes k ≡ Some node → count ≡ length bits + k → Settles count node
      → bit_at (grown state vector bits nodes) count ≡ node_bit state vector (grown state vector bits nodes) node
  grown-at bits [] k count node e same settles = absurd cc
  grown-at bits (first ∷ nodes) zero count node e same settles =
      let is_first : first ≡ node = cc in
      let number : count ≡ length bits = omega arith in
      ap (bit_at (grown state vector bits (first ∷ nodes))) number ∙ grown-first bits first nodes ∙ ap (node_bit state vector bits) is_first ∙ sym (settles bits (first ∷ nodes) (sym number))
  grown-at bits (first ∷ nodes) (suc k) count node e same settles =
      let l = length-append bits (node_bit state vector bits first ∷ []) in
      grown-at (bits ++ node_bit state vector bits first ∷ []) nodes k count node e (omega arith) settles

  -- the bit of any node of a graph
  pub bit-of : (graph : PlainGraph) (number : ℕ) (node : Node) → slice_get (nodes_of graph) number ≡ Some node → Settles number node → bit_at
      (bits_of graph state vector) number ≡ node_bit state vector (bits_of graph state vector) node
  bit-of graph number node e settles = grown-at [] (nodes_of graph) number number node e (omega arith) settles

  pub value-zero : (graph : PlainGraph) → value_of graph state vector (positive 0) ≡ false
  value-zero graph = bit-of graph 0 False refl (λ bits nodes e. refl)

  pub value-input : (graph : PlainGraph) (k : ℕ) → k < graph.inputs → value_of graph state vector (positive (1 + k)) ≡ bit_at vector k
  value-input graph k h = bit-of graph (1 + k) (Input k) (node-input graph k h) (λ bits nodes e. refl)

  pub value-latch : (graph : PlainGraph) (k : ℕ) → k < graph.latches → value_of graph state vector (positive (1 + graph.inputs + k)) ≡ bit_at state k
  value-latch graph k h =
      bit-of graph (1 + graph.inputs + k) (Latch k) (node-latch graph k h) (λ bits nodes e. refl)

  -- the bits before a conjunction decide its bit
  pub and_settles : (count : ℕ) (low high : NodeLit) → low.id.number < count → high.id.number < count → Settles count (And low high)
  and_settles count low high hl hh = λ bits nodes e.
      ap (λ bit. bit && literal_bit (grown state vector bits nodes) high) (grown-literal bits nodes low (omega (arith, hl, e))) ∙ ap (λ bit. literal_bit bits low && bit)
      (grown-literal bits nodes high (omega (arith, hh, e)))

  -- a conjunction has the conjunction of its literals' bits
  pub value-conjunction : (graph : PlainGraph) (k : ℕ) (pair : Pair) → slice_get graph.pairs k ≡ Some pair → pair.low.id.number < first_conjunction graph + k
      → pair.high.id.number < first_conjunction graph + k → value_of graph state vector (positive (first_conjunction graph + k)) ≡
      (value_of graph state vector pair.low && value_of graph state vector pair.high)
  value-conjunction graph k pair e low high =
      bit-of graph (first_conjunction graph + k) (conjunction pair) (node-conjunction graph k pair e) (and_settles (first_conjunction graph + k) pair.low pair.high low high)

  bits-with_pair : (graph : PlainGraph) (pair : Pair) → bits_of (with_pair graph pair) state vector ≡ grown state vector (bits_of graph state vector) (conjunction pair ∷ [])
  bits-with_pair graph pair =
      ap (grown state vector []) (nodes-with_pair graph pair) ∙ grown-append [] (nodes_of graph) (conjunction pair ∷ [])

  length-bits : (graph : PlainGraph) → length (bits_of graph state vector) ≡ count_of graph
  length-bits graph = let r = length-grown [] (nodes_of graph) in omega (arith, length_nodes graph)

  -- a new conjunction changes no earlier value
  pub value-kept : (graph : PlainGraph) (pair : Pair) (literal : NodeLit) → literal.id.number < count_of graph → value_of
      (with_pair graph pair) state vector literal ≡ value_of graph state vector literal
  value-kept graph pair literal h =
      ap (λ bits. literal_bit bits literal) (bits-with_pair graph pair) ∙ grown-literal (bits_of graph state vector) (conjunction pair ∷ []) literal (omega (arith, h, length-bits graph))

  -- and has the conjunction of its literals' values
  pub value-added : (graph : PlainGraph) (pair : Pair) → value_of (with_pair graph pair) state vector (positive (count_of graph)) ≡
      (value_of graph state vector pair.low && value_of graph state vector pair.high)
  value-added graph pair =
      ap (λ bits. bit_at bits (count_of graph)) (bits-with_pair graph pair) ∙ ap (bit_at (grown state vector (bits_of graph state vector) (conjunction pair ∷ [])))
      (sym (length-bits graph)) ∙ grown-first (bits_of graph state vector) (conjunction pair) []
