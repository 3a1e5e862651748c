-- Nets that have literals of a graph.
use Rattle.std.specs.Prelude.{◌≡◌, ℕ, ◌+◌, ◌<◌, ◌≤◌, List, Bool, length, slice_index_or, if◌then◌else◌}
use Rattle.pulse_ids.specs.Ids.{NodeLit}
use Rattle.aig_core.specs.Folds.{zero_literal, complement}
use Rattle.aig_core.specs.Graphs.{PlainGraph, count_of}
use Rattle.aig_core.specs.Values.{value_of}
use Rattle.source_machine.specs.Machines.{PlainLiteral, PlainMachine}
use Rattle.source_machine.specs.Runs.{Agrees}
use Rattle.pulse_ids.specs.Lists.{bit_at}

-- the literal of a net in the list of the nets' literals
abbrev pub literal_at : List NodeLit → ℕ → NodeLit
literal_at literals net = slice_index_or literals net zero_literal

-- the literal of a net, or its complement where the net is negated
abbrev pub node_literal : List NodeLit → PlainLiteral → NodeLit
node_literal literals literal =
    if literal.negated then complement (literal_at literals literal.net) else literal_at literals literal.net

-- the bit that a net's literal has in the graph
abbrev pub net_value : PlainGraph → List NodeLit → List Bool → List Bool → ℕ → Bool
net_value graph literals state vector net = value_of graph state vector (literal_at literals net)

-- the node of each net's literal is in the graph
abbrev pub AllWithin : PlainGraph → List NodeLit → Type 0
AllWithin graph literals =
    (net : ℕ) → net < length literals → (literal_at literals net).id.number < count_of graph

-- the net's literal has the bit that the net has in each valuation that agrees
abbrev pub IsWorth : PlainMachine → PlainGraph → List NodeLit → ℕ → Type 0
IsWorth machine graph literals net =
    (state vector valuation : List Bool) → Agrees machine state vector valuation → net_value graph literals state vector net ≡ bit_at valuation net

-- the graph has at most so many conjunctions more, and what was there keeps its value
pub record Grew (most : ℕ) (old new : PlainGraph) : Type 0 where
  pub inputs : new.inputs ≡ old.inputs
  pub latches : new.latches ≡ old.latches
  pub at_least : count_of old ≤ count_of new
  pub at_most : length new.pairs ≤ length old.pairs + most
  pub values : (state vector : List Bool) (literal : NodeLit) → literal.id.number < count_of old → value_of new state vector literal ≡ value_of old state vector literal

-- each net has a literal in the graph, and each of these nets one of its own bit
pub record HasLiterals (machine : PlainMachine) (graph : PlainGraph) (literals : List NodeLit) (built : ℕ → Type 0) : Type 0 where
  pub inputs : graph.inputs ≡ length machine.inputs
  pub latches : graph.latches ≡ length machine.latches
  pub width : length literals ≡ machine.nets + 1
  pub within : AllWithin graph literals
  pub worth : (net : ℕ) → built net → IsWorth machine graph literals net
