-- What a sink may have taken of a piece that it didn't take whole.
use Rattle.std.specs.Prelude.{◌≡◌, ℕ, List, ◌++◌}
use Rattle.std.specs.declared.option.Option.{Option}
use Rattle.std.specs.Io.KnownBytes.{Appends}

-- the bytes that a sink tells grew by some prefix of the piece, which may be none of it or all of it
pub record TookPrefix (old new : Option (List ℕ)) (piece : List ℕ) : Type 0 where
  pub prefix : List ℕ
  pub rest : List ℕ
  pub whole : piece ≡ prefix ++ rest
  pub grown : Appends old new prefix
