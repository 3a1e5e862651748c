-- A DROC with another feed.
use Rattle.std.specs.Prelude.{◌≤◌, ℕ, zero, suc, Option, Some, List, [], ◌∷◌}
use Rattle.pulse_ids.specs.Ids.{WireId}
use Rattle.cell_netlist.specs.declared.lines.Cell.{Cell}
use Rattle.cell_netlist.specs.declared.lines.Cell.TheVariants.{Droc}

-- the cell with another feed, where it is a DROC
abbrev pub with_feed : WireId → Cell → Cell
with_feed wire (Droc role preload feed q n) = Droc role preload wire q n
with_feed wire cell = cell

-- the cells where the one of a number has another feed
abbrev pub cells_with_feed : ℕ → WireId → List Cell → List Cell
cells_with_feed c wire [] = []
cells_with_feed zero wire (cell ∷ cells) = with_feed wire cell ∷ cells
cells_with_feed (suc c) wire (cell ∷ cells) = cell ∷ cells_with_feed c wire cells

-- there is a cell, a DROC whose feed is at most this number
abbrev pub IsDrocUpTo : Option Cell → ℕ → Type 0
IsDrocUpTo (Some (Droc role preload feed q n)) wire = feed.number ≤ wire
IsDrocUpTo place wire = ⊥
