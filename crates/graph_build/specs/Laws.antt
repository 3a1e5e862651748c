-- That a machine's graph computes what the machine computes, over whole runs.
use Rattle.std.specs.Prelude.{◌≡◌, ℕ, ◌<◌, List, [], Bool, length, slice_get, Some, slice_index_or}
use Rattle.pulse_ids.specs.Ids.{NodeLit}
use Rattle.aig_core.specs.Values.{value_of}
use Rattle.source_machine.specs.Machines.{PlainMachine}
use Rattle.source_machine.specs.Runs.{Agrees, IsRun, output_bits, bit_of}
use Rattle.graph_build.specs.Built.{PlainBuilt, IsGraphOf}
use Rattle.graph_build.specs.Runs.{vector_at, state_at, outputs_at}

-- in each cycle the machine's valuation is one of the graph's state, and the graph's outputs have the bits of the machine's
pub record RunsAlike (machine : PlainMachine) (built : PlainBuilt) (vectors valuations : List (List Bool)) : Type 0 where
  pub one_each : length valuations ≡ length vectors
  pub agrees : (cycle : ℕ) → cycle < length vectors
      → Agrees machine (state_at built vectors cycle) (vector_at vectors cycle) (slice_index_or valuations cycle [])
  pub outputs : (cycle : ℕ) → cycle < length vectors
      → outputs_at built vectors cycle ≡ output_bits machine (slice_index_or valuations cycle [])
  pub bits : (cycle output : ℕ) (literal : NodeLit) → cycle < length vectors → slice_get built.outputs output ≡ Some literal
      → value_of built.graph (state_at built vectors cycle) (vector_at vectors cycle) literal ≡ bit_of machine valuations cycle output

-- so does every graph of a machine, in every run of the machine on any vectors
abbrev pub GraphsRunAlike : Type 0
GraphsRunAlike =
    (machine : PlainMachine) (built : PlainBuilt) → IsGraphOf machine built
    → (vectors valuations : List (List Bool)) → IsRun machine vectors valuations → RunsAlike machine built vectors valuations
