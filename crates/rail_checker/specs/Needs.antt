-- A netlist as items that need and yield wires: the cells that drive wires.
use Rattle.std.specs.Prelude.{ℕ, Bool, false, not, ◌&&◌, List, [], ◌∷◌, map, get_or}
use Rattle.pulse_ids.specs.Ids.{CellId}
use Rattle.cell_netlist.specs.declared.lines.Cell.{Cell}
use Rattle.cell_netlist.specs.declared.lines.Cell.TheVariants.{La, Fa, Split, Droc}
use Rattle.cell_netlist.specs.Netlists.{PlainNetlist, wire_of, number_of_wires, outs}
use Rattle.dependency_order.specs.Dependencies.{PlainDependencies}
use Rattle.rail_checker.specs.DrivingCells.{cells_of}

-- the wires that are to be grounded before the cell's outputs are
abbrev pub needs_of_cell : Cell → List ℕ
needs_of_cell (La a b out) = a.number ∷ b.number ∷ []
needs_of_cell (Fa a b out) = a.number ∷ b.number ∷ []
needs_of_cell (Split from left right) = from.number ∷ []
needs_of_cell (Droc role preload feed q n) = []

-- the wires of input rails are grounded from the start, and each of these cells yields its outputs
abbrev pub dependencies_of : PlainNetlist → List CellId → PlainDependencies
dependencies_of net drivers = record {
  count = number_of_wires net;
  starts = map wire_of net.input_rails;
  needs = map needs_of_cell (cells_of net drivers);
  yields = map outs (cells_of net drivers);
}

-- the cell is an LA, FA or splitter with an output that isn't known
abbrev pub is_loose_in : List Bool → Cell → Bool
is_loose_in known (La a b out) = not (get_or known out.number false)
is_loose_in known (Fa a b out) = not (get_or known out.number false)
is_loose_in known (Split from left right) = not (get_or known left.number false && get_or known right.number false)
is_loose_in known (Droc role preload feed q n) = false
