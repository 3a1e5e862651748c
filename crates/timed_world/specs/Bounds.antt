-- The arrivals of wires, the greatest of them, and its path.
use Rattle.std.specs.Prelude.{◌≡◌, ◌<◌, ◌≤◌, ◌+◌, ℕ, max, Option, Some, None, List, [], ◌∷◌, map, reverse, slice_get, nat_lt, if◌then◌else◌}
use Rattle.pulse_ids.specs.Ids.{CellId}
use Rattle.pulse_ids.specs.Lists.{IsIn}
use Rattle.cell_netlist.specs.declared.lines.Rail.{Rail}
use Rattle.cell_netlist.specs.declared.lines.Cell.{Cell}
use Rattle.cell_netlist.specs.declared.lines.Cell.TheVariants.{La, Fa, Split, Droc}
use Rattle.cell_netlist.specs.Netlists.{PlainNetlist, wire_of, outs, number_of_wires}
use Rattle.timed_world.specs.Delays.{PlainDelays, delay_of, kind_of}

-- the greatest arrival of the inputs of a cell, and 0 for a DROC
abbrev pub entry_of : (ℕ → ℕ) → Cell → ℕ
entry_of arrival (La a b out) = max (arrival a.number) (arrival b.number)
entry_of arrival (Fa a b out) = max (arrival a.number) (arrival b.number)
entry_of arrival (Split from left right) = arrival from.number
entry_of arrival (Droc role preload feed q n) = 0

-- The arrivals of a netlist's wires: an input rail's wire has 0, a DROC's output its delay, any other wire the greatest
-- arrival of its driver's inputs plus the driver's delay.
pub record AreArrivals (delays : PlainDelays) (net : PlainNetlist) (arrival : ℕ → ℕ) : Type 0 where
  pub of_rail : (rail : Rail) → IsIn rail net.input_rails → arrival (wire_of rail) ≡ 0
  pub of_cell : (cell : Cell) → IsIn cell net.cells → (wire : ℕ) → IsIn wire (outs cell)
      → arrival wire ≡ entry_of arrival cell + delay_of delays (kind_of cell)

-- the wire has the greatest arrival, and none of a lower number has it
pub record IsLatest (net : PlainNetlist) (arrival : ℕ → ℕ) (wire : ℕ) : Type 0 where
  pub below : wire < number_of_wires net
  pub most : (other : ℕ) → other < number_of_wires net → arrival other ≤ arrival wire
  pub lowest : (other : ℕ) → other < number_of_wires net → arrival other ≡ arrival wire → wire ≤ other

-- the wire by which the path comes to a cell: of two the one on port a, unless that on port b has the greater arrival
abbrev pub comes_by : (ℕ → ℕ) → Cell → Option ℕ
comes_by arrival (La a b out) = Some (if nat_lt (arrival a.number) (arrival b.number) then b.number else a.number)
comes_by arrival (Fa a b out) = Some (if nat_lt (arrival a.number) (arrival b.number) then b.number else a.number)
comes_by arrival (Split from left right) = Some from.number
comes_by arrival (Droc role preload feed q n) = None

-- The cells of the path to a wire, the last one first: none where an input rail drives it, else the cell that drives it
-- and before it those of the path to the wire by which it comes to that cell.
abbrev pub LeadsBack : PlainNetlist → (ℕ → ℕ) → Option ℕ → List ℕ → Type 0
LeadsBack net arrival None [] = Unit
LeadsBack net arrival None (c ∷ rest) = ⊥
LeadsBack net arrival (Some wire) [] = (rail : Rail) × IsIn rail net.input_rails × (wire_of rail ≡ wire)
LeadsBack net arrival (Some wire) (c ∷ rest) =
    (cell : Cell) × (slice_get net.cells c ≡ Some cell) × IsIn wire (outs cell) × LeadsBack net arrival (comes_by arrival cell) rest

-- a time and a path
pub record PlainBound : Type 0 where
  pub time : ℕ
  pub path : List CellId

abbrev pub bound_of : ℕ → List CellId → PlainBound
bound_of time path = record { time = time; path = path }

-- the latest wire's arrival and path, or 0 and no path where there is no wire
abbrev pub IsLatestPath : PlainNetlist → (ℕ → ℕ) → Option ℕ → PlainBound → Type 0
IsLatestPath net arrival None bound = (number_of_wires net ≡ 0) × (bound.time ≡ 0) × (bound.path ≡ [])
IsLatestPath net arrival (Some wire) bound =
    IsLatest net arrival wire × (bound.time ≡ arrival wire) × LeadsBack net arrival (Some wire) (reverse (map (λ cell. cell.number) bound.path))

-- The bound of a netlist: the greatest arrival, and its path.
pub record IsBound (delays : PlainDelays) (net : PlainNetlist) (bound : PlainBound) : Type 0 where
  pub arrival : ℕ → ℕ
  pub arrivals : AreArrivals delays net arrival
  pub latest : Option ℕ
  pub is : IsLatestPath net arrival latest bound
