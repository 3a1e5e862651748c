-- The values of literals of nets.
use Rattle.std.proofs.Common.{◌≡◌, ◌<◌, List, Bool, true, false, not, ◌&&◌, ◌||◌, if◌then◌else◌, length, refl, ◌∙◌, ap}
use Rattle.pulse_ids.specs.Ids.{NodeLit}
use Rattle.aig_core.specs.Folds.{complement}
use Rattle.aig_core.specs.Graphs.{PlainGraph, count_of}
use Rattle.aig_core.specs.Values.{value_of, bits_of}
use Rattle.pulse_ids.specs.Lists.{bit_at}
use Rattle.source_machine.specs.Machines.{PlainLiteral}
use Rattle.source_machine.specs.Runs.{literal_value}
use Rattle.graph_build.specs.Literals.{literal_at, node_literal, net_value, AllWithin}

sign_flipped : (negated bit : Bool) → (if not negated then not bit else bit) ≡ not (if negated then not bit else bit)
sign_flipped true true = refl
sign_flipped true false = refl
sign_flipped false bit = refl

-- the complement of a literal has the complement of its value
pub complement_value : (graph : PlainGraph) (state vector : List Bool) (literal : NodeLit) → value_of graph state vector (complement literal) ≡ not (value_of graph state vector literal)
complement_value graph state vector literal = sign_flipped literal.negated (bit_at (bits_of graph state vector) literal.id.number)

-- a literal over nets has the value that its net's literal gives it
pub node_literal_value : (graph : PlainGraph) (literals : List NodeLit) (state vector : List Bool) (literal : PlainLiteral)
    → value_of graph state vector (node_literal literals literal) ≡ literal_value (net_value graph literals state vector) literal
node_literal_value graph literals state vector literal = go literal.negated
  where
    go : (negated : Bool) → value_of graph state vector (if negated then complement (literal_at literals literal.net) else literal_at literals literal.net) ≡
        (if negated then not (net_value graph literals state vector literal.net) else net_value graph literals state vector literal.net)
    go true = complement_value graph state vector (literal_at literals literal.net)
    go false = refl

-- the node of a literal over nets is in the graph
pub node_literal_within : (graph : PlainGraph) (literals : List NodeLit) (literal : PlainLiteral) → AllWithin graph literals → literal.net < length literals
    → (node_literal literals literal).id.number < count_of graph
node_literal_within graph literals literal within low = go literal.negated
  where
    go : (negated : Bool) → (if negated then complement (literal_at literals literal.net) else literal_at literals literal.net).id.number < count_of graph
    go true = within literal.net low
    go false = within literal.net low

pub and_assoc : (a b c : Bool) → ((a && b) && c) ≡ (a && (b && c))
and_assoc true b c = refl
and_assoc false b c = refl

pub or_assoc : (a b c : Bool) → ((a || b) || c) ≡ (a || (b || c))
or_assoc true b c = refl
or_assoc false b c = refl

-- a literal of the same node and the other sign has the complement of the value
pub flipped_value : (graph : PlainGraph) (state vector : List Bool) (a b : NodeLit) → b.id ≡ a.id → b.negated ≡ not a.negated → value_of graph state vector b ≡ not (value_of graph state vector a)
flipped_value graph state vector a b e f =
    ap (λ n. if n then not (bit_at (bits_of graph state vector) b.id.number) else bit_at (bits_of graph state vector) b.id.number) f
    ∙ ap (λ i. if not a.negated then not (bit_at (bits_of graph state vector) i.number) else bit_at (bits_of graph state vector) i.number) e ∙ complement_value graph state vector a
