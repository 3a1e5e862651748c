-- How many cells of each kind there are, and the junctions of cells.
use Rattle.std.specs.Prelude.{◌+◌, ◌*◌, ◌≤◌, ◌<◌, ℕ, Bool, true, false, not, List}
use Rattle.std.specs.List.{count_by}
use Rattle.cell_netlist.specs.declared.lines.Cell.{Cell}
use Rattle.cell_netlist.specs.declared.lines.Cell.TheVariants.{La, Fa, Split, Droc}
use Rattle.cell_netlist.specs.Netlists.{most_lines}
use Rattle.junction_report.specs.declared.counts.Counts.{Counts}

abbrev pub is_la : Cell → Bool
is_la (La a b out) = true
is_la (Fa a b out) = false
is_la (Split from left right) = false
is_la (Droc role preload feed q n) = false

abbrev pub is_fa : Cell → Bool
is_fa (La a b out) = false
is_fa (Fa a b out) = true
is_fa (Split from left right) = false
is_fa (Droc role preload feed q n) = false

abbrev pub is_split : Cell → Bool
is_split (La a b out) = false
is_split (Fa a b out) = false
is_split (Split from left right) = true
is_split (Droc role preload feed q n) = false

-- a DROC with preload 0, of any role
abbrev pub is_droc0 : Cell → Bool
is_droc0 (La a b out) = false
is_droc0 (Fa a b out) = false
is_droc0 (Split from left right) = false
is_droc0 (Droc role preload feed q n) = not preload

-- a DROC with preload 1, of any role
abbrev pub is_droc1 : Cell → Bool
is_droc1 (La a b out) = false
is_droc1 (Fa a b out) = false
is_droc1 (Split from left right) = false
is_droc1 (Droc role preload feed q n) = preload

-- the Josephson junctions of a cell, by this project's weights
abbrev pub junctions_in : Cell → ℕ
junctions_in (La a b out) = 4
junctions_in (Fa a b out) = 4
junctions_in (Split from left right) = 3
junctions_in (Droc role false feed q n) = 13
junctions_in (Droc role true feed q n) = 22

-- how many of the cells are of each kind
abbrev pub counts_of : List Cell → Counts
counts_of cells = record {
  la = count_by is_la cells;
  fa = count_by is_fa cells;
  split = count_by is_split cells;
  droc0 = count_by is_droc0 cells;
  droc1 = count_by is_droc1 cells;
}

-- one cell more
abbrev pub with_cell : Counts → Cell → Counts
with_cell counts (La a b out) = record counts { la = counts.la + 1 }
with_cell counts (Fa a b out) = record counts { fa = counts.fa + 1 }
with_cell counts (Split from left right) = record counts { split = counts.split + 1 }
with_cell counts (Droc role false feed q n) = record counts { droc0 = counts.droc0 + 1 }
with_cell counts (Droc role true feed q n) = record counts { droc1 = counts.droc1 + 1 }

-- the cells of all kinds
abbrev pub all_in : Counts → ℕ
all_in counts = counts.la + counts.fa + counts.split + counts.droc0 + counts.droc1

-- one cell more can be counted
abbrev pub HasRoom : Counts → Type 0
HasRoom counts = all_in counts < most_lines

-- the cells of all kinds are no more than a netlist has
abbrev pub AreFew : Counts → Type 0
AreFew counts = all_in counts ≤ most_lines

-- the junctions of so many cells
abbrev pub junctions_of : Counts → ℕ
junctions_of counts = 4 * (counts.la + counts.fa) + 3 * counts.split + (13 * counts.droc0 + 22 * counts.droc1)
