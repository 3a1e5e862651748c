-- What was taken of a piece so far.
use Rattle.std.proofs.Common.{◌≡◌, ◌+◌, ◌++◌, ℕ, List, length}
use Rattle.aiger_reader.specs.Readings.{HasRead, IsFine}
use Rattle.aiger_reader.proofs.pieces.take_piece.Given as goal

abbrev pub invariant-loop-rest : goal.invariant-loop-rest
invariant-loop-rest l = record {
  fine : IsFine l.begun.items l.built;
  start : l.built.start + (length l.begun.items + length l.rest) ≡ l.fn.built.start + (length l.fn.begun.items + length l.piece);
  read : (prefix : List ℕ) × (l.piece ≡ prefix ++ l.rest) × ((text : List ℕ) → HasRead l.unset text l.fn.begun.items l.fn.built → HasRead l.unset (text ++ prefix) l.begun.items l.built);
}

abbrev pub decreases-loop-rest : goal.decreases-loop-rest
decreases-loop-rest l = length l.rest
