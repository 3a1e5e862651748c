-- What was taken of a piece so far.
use Rattle.std.proofs.Common.{◌≡◌, ◌≤◌, ◌+◌, ◌++◌, ℕ, List, length}
use Rattle.word_scan.specs.Lines.{next_number}
use Rattle.blif_reader.specs.Bounds.{IsBounded}
use Rattle.blif_reader.specs.Readings.{HasRead}
use Rattle.blif_reader.proofs.pieces.take_piece.Given as goal

abbrev pub invariant-loop-rest : goal.invariant-loop-rest
invariant-loop-rest l = record {
  bounded : IsBounded l.state;
  few : next_number l.lines + length l.rest ≤ next_number l.fn.lines + length l.piece;
  read : (prefix : List ℕ) × (l.piece ≡ prefix ++ l.rest)
      × ((text : List ℕ) → HasRead l.unset text l.fn.lines l.fn.logical l.fn.state → HasRead l.unset (text ++ prefix) l.lines l.logical l.state);
}

abbrev pub decreases-loop-rest : goal.decreases-loop-rest
decreases-loop-rest l = length l.rest
