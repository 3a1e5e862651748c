-- A netlist as items that need one another: its cells.
use Rattle.std.specs.Prelude.{ℕ, Option, Some, None, List, [], ◌∷◌, ◌++◌, map, length}
use Rattle.std.specs.List.{flat_map}
use Rattle.pulse_ids.specs.Ids.{CellId}
use Rattle.pulse_ids.specs.Lists.{upto}
use Rattle.cell_netlist.specs.declared.lines.Cell.{Cell}
use Rattle.cell_netlist.specs.declared.lines.Cell.TheVariants.{La, Fa, Split, Droc}
use Rattle.cell_netlist.specs.declared.lines.Driver.{Driver}
use Rattle.cell_netlist.specs.declared.lines.Driver.TheVariants as drivers_of
use Rattle.cell_netlist.specs.Netlists.{PlainNetlist}
use Rattle.cell_netlist.specs.Places.{drivers}
use Rattle.dependency_order.specs.Dependencies.{PlainDependencies}

-- the LA, FA or splitter of a driving place
abbrev pub passing_at : Driver → List ℕ
passing_at (drivers_of.Input id) = []
passing_at (drivers_of.Out id) = id.number ∷ []
passing_at (drivers_of.Left id) = id.number ∷ []
passing_at (drivers_of.Right id) = id.number ∷ []
passing_at (drivers_of.Q id) = []
passing_at (drivers_of.N id) = []

-- the LA, FA and splitter cells that drive a wire
abbrev pub feeding : PlainNetlist → ℕ → List ℕ
feeding net wire = flat_map passing_at (drivers net wire)

-- the number of a cell, where there is one
abbrev pub listed : Option CellId → List ℕ
listed None = []
listed (Some cell) = cell.number ∷ []

-- the LA, FA and splitter cells whose outputs an LA, FA or splitter reads
abbrev pub needs_of_cell : PlainNetlist → Cell → List ℕ
needs_of_cell net (La a b out) = feeding net a.number ++ feeding net b.number
needs_of_cell net (Fa a b out) = feeding net a.number ++ feeding net b.number
needs_of_cell net (Split from left right) = feeding net from.number
needs_of_cell net (Droc role preload feed q n) = []

-- each cell needs those and yields itself
abbrev pub dependencies_of : PlainNetlist → PlainDependencies
dependencies_of net = record {
  count = length net.cells;
  starts = [];
  needs = map (needs_of_cell net) net.cells;
  yields = map (λ c. c ∷ []) (upto (length net.cells));
}
