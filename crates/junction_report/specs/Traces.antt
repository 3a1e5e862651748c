-- A path as it is found, from its last cell back.
use Rattle.std.specs.Prelude.{◌≡◌, ◌≤◌, ℕ, Option, Some, None, slice_get, get_or, List, [], ◌∷◌, nat_lt, if◌then◌else◌}
use Rattle.pulse_ids.specs.Ids.{CellId}
use Rattle.cell_netlist.specs.declared.lines.Cell.{Cell}
use Rattle.cell_netlist.specs.declared.lines.Cell.TheVariants.{La, Fa, Split, Droc}
use Rattle.cell_netlist.specs.Netlists.{PlainNetlist}
use Rattle.cell_orders.specs.Needs.{feeding}
use Rattle.junction_report.specs.Depths.{depth_behind, most}

-- the cell is the lowest of those with the greatest depth; there is none where the greatest depth is 0
abbrev pub IsLast : List ℕ → Option CellId → Type 0
IsLast table None = most table ≡ 0
IsLast table (Some cell) =
    (1 ≤ most table) × (get_or table cell.number 0 ≡ most table) × ((d : ℕ) → get_or table d 0 ≡ most table → cell.number ≤ d)

-- the cell before a cell on its path, by the table of depths
abbrev pub before : PlainNetlist → List ℕ → Cell → List ℕ
before net table (La a b out) =
    if nat_lt (depth_behind net table a.number) (depth_behind net table b.number) then feeding net b.number else feeding net a.number
before net table (Fa a b out) =
    if nat_lt (depth_behind net table a.number) (depth_behind net table b.number) then feeding net b.number else feeding net a.number
before net table (Split from left right) = feeding net from.number
before net table (Droc role preload feed q n) = []

-- These cells are a path back from its last cell, each before the one that it follows, and the next one is still to
-- come.
abbrev pub IsBackTo : PlainNetlist → List ℕ → List ℕ → List ℕ → List ℕ → Type 0
IsBackTo net table start [] next = next ≡ start
IsBackTo net table start (c ∷ rest) next =
    (start ≡ c ∷ []) × (cell : Cell) × (slice_get net.cells c ≡ Some cell) × IsBackTo net table (before net table cell) rest next
