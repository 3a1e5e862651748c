-- The cells that drive wires, as a list of their numbers, and the table by which it is made.
use Rattle.std.specs.Prelude.{◌≡◌, ◌≤◌, ◌<◌, ℕ, Option, Some, None, List, length, map, get_or, slice_get}
use Rattle.pulse_ids.specs.Ids.{CellId, numbered}
use Rattle.pulse_ids.specs.Lists.{IsIn}
use Rattle.cell_netlist.specs.declared.lines.Cell.{Cell}
use Rattle.cell_netlist.specs.declared.lines.Cell.TheVariants.{La, Fa, Split, Droc}
use Rattle.cell_netlist.specs.Netlists.{PlainNetlist, outs, number_of_wires, most_lines}
use Rattle.cell_netlist.specs.Decisions.{number_on}

-- the cell of a number, and a splitter where the netlist has no such cell
abbrev pub cell_of : PlainNetlist → CellId → Cell
cell_of net id = get_or net.cells id.number (Split (numbered 0) (numbered 0) (numbered 0))

-- the cells of these numbers
abbrev pub cells_of : PlainNetlist → List CellId → List Cell
cells_of net ids = map (cell_of net) ids

-- the numbers are those of cells, and among these are all cells that drive a wire
pub record HoldsDrivers (net : PlainNetlist) (drivers : List CellId) : Type 0 where
  pub within : (id : CellId) → IsIn id drivers → id.number < length net.cells
  pub all : (cell : Cell) → IsIn cell net.cells → (wire : ℕ) → IsIn wire (outs cell) → IsIn cell (cells_of net drivers)
  pub few : length drivers ≤ most_lines

-- the first wire that a cell drives
abbrev pub first_out : Cell → Option ℕ
first_out (La a b out) = Some out.number
first_out (Fa a b out) = Some out.number
first_out (Split from left right) = Some left.number
first_out (Droc role preload feed None n) = number_on n
first_out (Droc role preload feed (Some q) n) = Some q.number

-- the number that the table has for a wire
abbrev pub driver_at : List CellId → ℕ → ℕ
driver_at table wire = (get_or table wire (numbered 0)).number

-- the first so many cells stand in the table of the wires, each at the first wire that it drives
pub record ShowsDrivers (net : PlainNetlist) (count : ℕ) (table : List CellId) : Type 0 where
  pub width : length table ≡ number_of_wires net
  pub shown : (number : ℕ) (cell : Cell) (wire : ℕ) → number < count → slice_get net.cells number ≡ Some cell → first_out cell ≡ Some wire
      → driver_at table wire ≡ number
