-- What the nodes of a graph are worth, for the bits of the latches (the state) and of the inputs (the vector).
use Rattle.std.specs.Prelude.{List, [], ◌∷◌, ◌++◌, Bool, false, not, ◌&&◌, if◌then◌else◌}
use Rattle.pulse_ids.specs.Ids.{NodeLit}
use Rattle.aig_core.specs.declared.nodes.Node.{Node}
use Rattle.aig_core.specs.declared.nodes.Node.TheVariants.{False, Input, Latch, And}
use Rattle.aig_core.specs.Graphs.{PlainGraph, nodes_of}
use Rattle.pulse_ids.specs.Lists.{bit_at}

-- the bit of a literal's node, or the complement where the literal is negated
abbrev pub literal_bit : List Bool → NodeLit → Bool
literal_bit bits literal =
    if literal.negated then not (bit_at bits literal.id.number) else bit_at bits literal.id.number

-- the bit of a node, by the bits of the nodes before it
abbrev pub node_bit : List Bool → List Bool → List Bool → Node → Bool
node_bit state vector bits False = false
node_bit state vector bits (Input number) = bit_at vector number
node_bit state vector bits (Latch number) = bit_at state number
node_bit state vector bits (And low high) = literal_bit bits low && literal_bit bits high

-- the bits, and those of further nodes after them
abbrev pub grown : List Bool → List Bool → List Bool → List Node → List Bool
grown state vector bits [] = bits
grown state vector bits (node ∷ nodes) =
    grown state vector (bits ++ node_bit state vector bits node ∷ []) nodes

-- the bits of all nodes
abbrev pub bits_of : PlainGraph → List Bool → List Bool → List Bool
bits_of graph state vector = grown state vector [] (nodes_of graph)

-- the value of a literal
abbrev pub value_of : PlainGraph → List Bool → List Bool → NodeLit → Bool
value_of graph state vector literal = literal_bit (bits_of graph state vector) literal
