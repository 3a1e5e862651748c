-- Which node stands at which number.
use Rattle.std.proofs.Common.{◌≡◌, ℕ, suc, ◌+◌, ◌<◌, List, [], ◌∷◌, ◌++◌, length, map, slice_get, Some, refl, sym, ◌∙◌, ap, arith, length-append, append_assoc, get_or, subst, false}
use Rattle.std.proofs.lemmas.List.{length-map, map-append}
use Rattle.std.proofs.lemmas.List.FromFn.{length-map-range_with_len, get_or-map-range_with_len}
use Rattle.std.specs.List.{range_with_len}
use Rattle.std.specs.Option.{option_map}
use Rattle.std.proofs.lemmas.Option.{slice_get-map, slice_get-get_or}
use Rattle.pulse_ids.specs.Ids.{NodeLit, numbered}
use Rattle.aig_core.specs.Folds.{positive}
use Rattle.aig_core.specs.declared.pairs.Pair.{Pair}
use Rattle.aig_core.specs.declared.nodes.Node.{Node}
use Rattle.aig_core.specs.declared.nodes.Node.TheVariants.{False, Input, Latch, And}
use Rattle.aig_core.specs.Graphs.{PlainGraph, conjunction, nodes_of, first_conjunction, count_of, with_pair}
use Rattle.aig_core.proofs.CallerLemmas.{slice_get-left, slice_get-at}

length-inputs : (graph : PlainGraph) → length (map Input (range_with_len 0 graph.inputs)) ≡ graph.inputs
length-inputs graph = length-map-range_with_len Input 0 graph.inputs

length-latches : (graph : PlainGraph) → length (map Latch (range_with_len 0 graph.latches)) ≡ graph.latches
length-latches graph = length-map-range_with_len Latch 0 graph.latches

-- the list of nodes is as long as it should be
pub length_nodes : (graph : PlainGraph) → length (nodes_of graph) ≡ count_of graph
length_nodes graph =
    let i = length-append (map Input (range_with_len 0 graph.inputs)) (map Latch (range_with_len 0 graph.latches) ++ map conjunction graph.pairs) in
    let l = length-append (map Latch (range_with_len 0 graph.latches)) (map conjunction graph.pairs) in
    let p = length-map graph.pairs conjunction in
    omega (arith, i, l, p, length-inputs graph, length-latches graph)

numbered_item : {X : Type 0} (make : ℕ → X) (count k : ℕ) → k < count → slice_get (map make (range_with_len 0 count)) k ≡ Some (make k)
numbered_item make count k h =
    slice_get-get_or (map make (range_with_len 0 count)) k (make k) (omega (arith, h, length-map-range_with_len make 0 count))
    ∙ ap (λ n. Some n) (get_or-map-range_with_len make 0 count k k (make k) h (omega arith))

pub node-false : (graph : PlainGraph) → slice_get (nodes_of graph) 0 ≡ Some False
node-false graph = refl

pub node-input : (graph : PlainGraph) (k : ℕ) → k < graph.inputs → slice_get (nodes_of graph) (1 + k) ≡ Some (Input k)
node-input graph k h =
    let number : 1 + k ≡ suc k = omega arith in
    ap (slice_get (nodes_of graph)) number ∙ slice_get-left (map Input (range_with_len 0 graph.inputs))
    (map Latch (range_with_len 0 graph.latches) ++ map conjunction graph.pairs) k (omega (arith, h, length-inputs graph)) ∙ numbered_item Input graph.inputs k h

pub node-latch : (graph : PlainGraph) (k : ℕ) → k < graph.latches → slice_get (nodes_of graph) (1 + graph.inputs + k) ≡ Some (Latch k)
node-latch graph k h =
    let number : 1 + graph.inputs + k ≡ suc (graph.inputs + k) = omega arith in ap (slice_get (nodes_of graph)) number ∙ slice_get-at
    (map Input (range_with_len 0 graph.inputs)) (map Latch (range_with_len 0 graph.latches) ++ map conjunction graph.pairs) (graph.inputs + k) k
    (omega (arith, length-inputs graph)) ∙ slice_get-left (map Latch (range_with_len 0 graph.latches)) (map conjunction graph.pairs) k
    (omega (arith, h, length-latches graph)) ∙ numbered_item Latch graph.latches k h

pub node-conjunction : (graph : PlainGraph) (k : ℕ) (pair : Pair) → slice_get graph.pairs k ≡ Some pair → slice_get (nodes_of graph) (first_conjunction graph + k) ≡ Some (conjunction pair)
node-conjunction graph k pair e =
    let number : first_conjunction graph + k ≡ suc (graph.inputs + graph.latches + k) = omega arith in ap (slice_get (nodes_of graph)) number ∙ slice_get-at
    (map Input (range_with_len 0 graph.inputs)) (map Latch (range_with_len 0 graph.latches) ++ map conjunction graph.pairs) (graph.inputs + graph.latches + k)
    (graph.latches + k) (omega (arith, length-inputs graph)) ∙ slice_get-at (map Latch (range_with_len 0 graph.latches)) (map conjunction graph.pairs)
    (graph.latches + k) k (omega (arith, length-latches graph)) ∙ slice_get-map conjunction graph.pairs k ∙ ap (option_map conjunction) e

-- one more conjunction is the last node
pub nodes-with_pair : (graph : PlainGraph) (pair : Pair) → nodes_of (with_pair graph pair) ≡ nodes_of graph ++ conjunction pair ∷ []
nodes-with_pair graph pair =
    let inputs : List Node = map Input (range_with_len 0 graph.inputs) in
    let latches : List Node = map Latch (range_with_len 0 graph.latches) in
    let pairs : List Node = map conjunction graph.pairs in
    let last : List Node = conjunction pair ∷ [] in
    ap (λ ns. False ∷ (inputs ++ (latches ++ ns))) (map-append conjunction graph.pairs (pair ∷ [])) ∙ ap (λ ns. False ∷ (inputs ++ ns))
    (sym (append_assoc latches pairs last)) ∙ ap (λ ns. False ∷ ns) (sym (append_assoc inputs (latches ++ pairs) last))

-- the same by the node's number
pub node-input-at : (graph : PlainGraph) (number k : ℕ) → k < graph.inputs → number ≡ 1 + k → slice_get (nodes_of graph) number ≡ Some (Input k)
node-input-at graph number k h e = ap (slice_get (nodes_of graph)) e ∙ node-input graph k h

pub node-latch-at : (graph : PlainGraph) (number k : ℕ) → k < graph.latches → number ≡ 1 + graph.inputs + k → slice_get (nodes_of graph) number ≡ Some (Latch k)
node-latch-at graph number k h e = ap (slice_get (nodes_of graph)) e ∙ node-latch graph k h

-- the same by a list that holds the pairs, and the pair's literals
pub node-conjunction-read : (graph : PlainGraph) (pairs : List Pair) (k : ℕ) (pair : Pair) (low high : NodeLit) → pairs ≡ graph.pairs → k < length graph.pairs → pair ≡ get_or pairs k pair
    → low ≡ pair.low → high ≡ pair.high → slice_get (nodes_of graph) (first_conjunction graph + k) ≡ Some (And low high)
node-conjunction-read graph pairs k pair low high same h is lows highs =
    node-conjunction graph k pair
    (ap (λ list. slice_get list k) (sym same) ∙ slice_get-get_or pairs k pair (subst (λ list. k < length list) (sym same) h) ∙ ap Some (sym is)) ∙ (λ i. Some (And (sym lows i) (sym highs i)))

-- a literal by its parts
pub positive_is : (literal : NodeLit) (number : ℕ) → literal.id.number ≡ number → literal.negated ≡ false → literal ≡ positive number
positive_is literal number e plain = λ i. record { id = numbered (e i); negated = plain i }
