-- What was taken of a piece so far.
use Rattle.std.proofs.Common.{◌≡◌, ◌+◌, ◌≤◌, ◌++◌, ℕ, List, length}
use Rattle.schedule_replay.specs.Readings.{HasReadLines, IsFine}
use Rattle.schedule_replay.proofs.pieces.take_piece.Given as goal

abbrev pub invariant-loop-rest : goal.invariant-loop-rest
invariant-loop-rest l = record {
  fine : IsFine l.form l.lines l.table;
  place : l.table.place + length l.rest ≤ l.fn.table.place + length l.piece;
  read : (prefix : List ℕ) × (l.piece ≡ prefix ++ l.rest) × ((text : List ℕ) → HasReadLines l.form text l.fn.lines l.fn.table → HasReadLines l.form (text ++ prefix) l.lines l.table);
}

abbrev pub decreases-loop-rest : goal.decreases-loop-rest
decreases-loop-rest l = length l.rest
