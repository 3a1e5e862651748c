-- Vectors and scripts as plain lists.
use Rattle.std.specs.Prelude.{Bool, List}
use Rattle.pulse_ids.specs.Ids.{WireId}

-- the vectors in order, and where there are scripts those of each vector in turn, excite and relax
pub record PlainVectors : Type 0 where
  pub vectors : List (List Bool)
  pub scripts : List (List WireId)
