-- What one conjunction leaves as it was.
use Rattle.std.specs.Prelude.{◌≡◌, ℕ, ◌+◌, ◌<◌, ◌≤◌, List, Bool, slice_get}
use Rattle.pulse_ids.specs.Ids.{NodeLit}
use Rattle.aig_core.specs.Graphs.{PlainGraph, nodes_of, count_of}
use Rattle.aig_core.specs.Values.{value_of}

-- at most one node was added, and all earlier nodes and their values stay
pub record Grows (old new : PlainGraph) : Type 0 where
  pub inputs : new.inputs ≡ old.inputs
  pub latches : new.latches ≡ old.latches
  pub at_least : count_of old ≤ count_of new
  pub at_most : count_of new ≤ count_of old + 1
  pub nodes : (number : ℕ) → number < count_of old → slice_get (nodes_of new) number ≡ slice_get (nodes_of old) number
  pub values : (state vector : List Bool) (literal : NodeLit) → literal.id.number < count_of old → value_of new state vector literal ≡ value_of old state vector literal
