-- The cycles of a graph with literals for outputs and next states.
use Rattle.std.specs.Prelude.{ℕ, zero, suc, List, [], Bool, map, slice_index_or}
use Rattle.aig_core.specs.Values.{value_of}
use Rattle.graph_build.specs.Built.{PlainBuilt}

-- the vector of this number
abbrev pub vector_at : List (List Bool) → ℕ → List Bool
vector_at vectors cycle = slice_index_or vectors cycle []

-- the latches' bits before the cycle of this number: their first bits, and then the values of the next literals
abbrev pub state_at : PlainBuilt → List (List Bool) → ℕ → List Bool
state_at built vectors zero = built.inits
state_at built vectors (suc cycle) = map (value_of built.graph (state_at built vectors cycle) (vector_at vectors cycle)) built.nexts

-- the values of the output literals in the cycle of this number
abbrev pub outputs_at : PlainBuilt → List (List Bool) → ℕ → List Bool
outputs_at built vectors cycle = map (value_of built.graph (state_at built vectors cycle) (vector_at vectors cycle)) built.outputs
