-- What was taken of a piece so far.
use Rattle.std.proofs.Common.{◌≡◌, ◌≤◌, ◌+◌, ◌++◌, ℕ, List, length}
use Rattle.word_scan.specs.Reading.{HasRead}
use Rattle.netlist_reader.specs.Building.{line_read, start}
use Rattle.netlist_reader.specs.Readings.{IsFine}
use Rattle.netlist_reader.proofs.pieces.take_piece.Given as goal

abbrev pub invariant-loop-alloc : goal.invariant-loop-alloc
invariant-loop-alloc l = record {
  fine : IsFine l.lines l.built;
  few : l.built.lines + length l.rest ≤ l.fn.built.lines + length l.piece;
  read : (prefix : List ℕ) × (l.piece ≡ prefix ++ l.rest) × ((text : List ℕ) → HasRead line_read start text l.fn.lines l.fn.built → HasRead line_read start (text ++ prefix) l.lines l.built);
}

abbrev pub decreases-loop-alloc : goal.decreases-loop-alloc
decreases-loop-alloc l = length l.rest
