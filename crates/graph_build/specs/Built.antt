-- A graph with literals for the outputs and next states of a machine, and what it has to do with the machine.
use Rattle.std.specs.Prelude.{◌≡◌, ℕ, ◌<◌, ◌≤◌, List, Bool, map, length, slice_get, Some}
use Rattle.pulse_ids.specs.Ids.{NodeLit}
use Rattle.pulse_ids.specs.Quantities.{greatest_of}
use Rattle.pulse_ids.specs.declared.quantities.Quantity.TheVariants.{Outputs}
use Rattle.aig_core.specs.Graphs.{PlainGraph, count_of}
use Rattle.aig_core.specs.Tidy.{IsKept}
use Rattle.aig_core.specs.Values.{value_of}
use Rattle.source_machine.specs.Machines.{PlainMachine}
use Rattle.source_machine.specs.Fitting.{size_of}
use Rattle.source_machine.specs.Runs.{Agrees, initial_state, next_state, output_bits}

-- a graph, the literals of the outputs, those of the latches' next states, and the latches' first bits
pub record PlainBuilt : Type 0 where
  pub graph : PlainGraph
  pub outputs : List NodeLit
  pub nexts : List NodeLit
  pub inits : List Bool

-- the node of each of these literals is in the graph
abbrev pub AreWithin : PlainGraph → List NodeLit → Type 0
AreWithin graph literals =
    (place : ℕ) (literal : NodeLit) → slice_get literals place ≡ Some literal → literal.id.number < count_of graph

-- a tidy graph within its limits that has the node of each literal, with a next state and a first bit for each latch
pub record IsWithinGraph (built : PlainBuilt) : Type 0 where
  pub kept : IsKept built.graph
  pub outputs_within : AreWithin built.graph built.outputs
  pub nexts_within : AreWithin built.graph built.nexts
  pub outputs_fit : length built.outputs ≤ greatest_of Outputs
  pub one_next_each : length built.nexts ≡ built.graph.latches
  pub one_init_each : length built.inits ≡ built.graph.latches

-- the graph is tidy and computes what the machine computes: for each state and vector the literals have the values that the machine's have in the valuation that agrees
pub record IsGraphOf (machine : PlainMachine) (built : PlainBuilt) : Type 0 where
  pub within : IsWithinGraph built
  pub inputs : built.graph.inputs ≡ length machine.inputs
  pub latches : built.graph.latches ≡ length machine.latches
  pub one_output_each : length built.outputs ≡ length machine.outputs
  pub output_values : (state vector valuation : List Bool) → Agrees machine state vector valuation → map (value_of built.graph state vector) built.outputs ≡ output_bits machine valuation
  pub next_values : (state vector valuation : List Bool) → Agrees machine state vector valuation → map (value_of built.graph state vector) built.nexts ≡ next_state machine valuation
  pub first_bits : built.inits ≡ initial_state machine
  pub small : length built.graph.pairs ≤ size_of machine
