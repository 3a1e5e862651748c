-- Tables of the greatest measures of walks.
use Rattle.std.specs.Prelude.{◌≡◌, ◌≤◌, ℕ, max, Some, option_map, unwrap_or, slice_get, get_or, List, [], ◌∷◌, length, map}
use Rattle.std.specs.List.{sum_by}
use Rattle.cell_netlist.specs.declared.lines.Cell.{Cell}
use Rattle.cell_netlist.specs.declared.lines.Cell.TheVariants.{La, Fa, Split, Droc}
use Rattle.cell_netlist.specs.Netlists.{PlainNetlist, IsDroc}
use Rattle.junction_report.specs.declared.depths.Measured.{Measured}
use Rattle.junction_report.specs.declared.depths.Measured.TheVariants.{Cells, Gates}
use Rattle.junction_report.specs.Walks.{IsPassing, IsWalkTo, IsGreatest, one_if_gate}
use Rattle.cell_orders.specs.Needs.{feeding}

-- what a cell adds to the measure of a walk
abbrev pub share_of : Measured → Cell → ℕ
share_of Cells (La a b out) = 1
share_of Cells (Fa a b out) = 1
share_of Cells (Split from left right) = 1
share_of Cells (Droc role preload feed q n) = 0
share_of Gates cell = one_if_gate cell

-- the measure of a walk
abbrev pub measure_of : PlainNetlist → Measured → List ℕ → ℕ
measure_of net measured walk = sum_by (λ c. unwrap_or (option_map (share_of measured) (slice_get net.cells c)) 0) walk

-- the greatest measure of a walk that ends in the cell
abbrev pub IsGreatestTo : PlainNetlist → Measured → ℕ → ℕ → Type 0
IsGreatestTo net measured c greatest = IsGreatest (IsWalkTo net c) (measure_of net measured) greatest

-- the greatest of the numbers, and 0 where there is none
abbrev pub most : List ℕ → ℕ
most [] = 0
most (x ∷ xs) = max x (most xs)

-- what the table has for the LA, FA or splitter that drives a wire, and 0 where none does
abbrev pub depth_behind : PlainNetlist → List ℕ → ℕ → ℕ
depth_behind net table wire = most (map (λ c. get_or table c 0) (feeding net wire))

-- the greatest value of the wires that an LA, FA or splitter reads
abbrev pub entry_depth : (ℕ → ℕ) → Cell → ℕ
entry_depth value (La a b out) = max (value a.number) (value b.number)
entry_depth value (Fa a b out) = max (value a.number) (value b.number)
entry_depth value (Split from left right) = value from.number
entry_depth value (Droc role preload feed q n) = 0

-- none of the numbers is greater than this
abbrev pub AreAtMost : ℕ → List ℕ → Type 0
AreAtMost greatest numbers = (place : ℕ) → get_or numbers place 0 ≤ greatest

-- for each LA, FA and splitter the greatest measure of a walk that ends in it, and 0 for each DROC
pub record AreDepths (net : PlainNetlist) (measured : Measured) (table : List ℕ) : Type 0 where
  pub width : length table ≡ length net.cells
  pub passing : (c : ℕ) → IsPassing net c → IsGreatestTo net measured c (get_or table c 0)
  pub droc : (c : ℕ) (cell : Cell) → slice_get net.cells c ≡ Some cell → IsDroc cell → get_or table c 0 ≡ 0
  pub small : (c : ℕ) → get_or table c 0 ≤ length net.cells
