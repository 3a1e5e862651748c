-- Arrivals by a table of the cells.
use Rattle.std.specs.Prelude.{◌≡◌, ◌≤◌, ◌+◌, ℕ, Some, List, [], ◌∷◌, length, get_or, slice_get}
use Rattle.cell_netlist.specs.declared.lines.Cell.{Cell}
use Rattle.cell_netlist.specs.declared.lines.Driver.{Driver}
use Rattle.cell_netlist.specs.declared.lines.Driver.TheVariants.{Input, Out, Left, Right, Q, N}
use Rattle.cell_netlist.specs.Netlists.{PlainNetlist, IsDroc}
use Rattle.cell_netlist.specs.Places.{drivers}
use Rattle.timed_world.specs.Bounds.{entry_of}
use Rattle.timed_world.specs.Delays.{PlainDelays, delay_of, kind_of}

-- the arrival at a driving place, where the table has those of the LA, FA and splitter cells
abbrev pub place_arrival : PlainDelays → List ℕ → Driver → ℕ
place_arrival delays table (Input id) = 0
place_arrival delays table (Out id) = get_or table id.number 0
place_arrival delays table (Left id) = get_or table id.number 0
place_arrival delays table (Right id) = get_or table id.number 0
place_arrival delays table (Q id) = delays.droc
place_arrival delays table (N id) = delays.droc

abbrev pub first_arrival : PlainDelays → List ℕ → List Driver → ℕ
first_arrival delays table [] = 0
first_arrival delays table (place ∷ places) = place_arrival delays table place

-- the arrival of a wire, by what drives it
abbrev pub table_arrival : PlainDelays → PlainNetlist → List ℕ → ℕ → ℕ
table_arrival delays net table wire = first_arrival delays table (drivers net wire)

-- none of the numbers is above this
abbrev pub AreUpTo : ℕ → List ℕ → Type 0
AreUpTo most table = (c : ℕ) → get_or table c 0 ≤ most

-- the arrival of the outputs of a cell, by those of its inputs
abbrev pub cell_arrival : PlainDelays → PlainNetlist → List ℕ → Cell → ℕ
cell_arrival delays net table cell = entry_of (table_arrival delays net table) cell + delay_of delays (kind_of cell)

-- the table has the arrival of each LA, FA and splitter
pub record AreCellArrivals (delays : PlainDelays) (net : PlainNetlist) (table : List ℕ) : Type 0 where
  pub width : length table ≡ length net.cells
  pub passing : (c : ℕ) (cell : Cell) → slice_get net.cells c ≡ Some cell → (IsDroc cell → ⊥) → get_or table c 0 ≡ cell_arrival delays net table cell
