-- Laws on netlists with more lines: what drives, what reads, which wires are grounded, and where splitters lead.
use Rattle.std.specs.Prelude.{◌≡◌, ◌↔◌, ◌⊎◌, ◌+◌, ℕ, max, Some, List, [], ◌∷◌, ◌++◌, if◌then◌else◌, ◌==◌}
use Rattle.std.specs.List.{flat_map}
use Rattle.pulse_ids.specs.Ids.{WireId}
use Rattle.pulse_ids.specs.Lists.{IsIn, occurrences}
use Rattle.cell_netlist.specs.declared.lines.Rail.{Rail}
use Rattle.cell_netlist.specs.declared.lines.Cell.{Cell}
use Rattle.cell_netlist.specs.declared.lines.Driver.{Driver}
use Rattle.cell_netlist.specs.declared.lines.Reader.{Reader}
use Rattle.cell_netlist.specs.Netlists.{PlainNetlist, wire_of, outs, reads, driven, read, wire_bound, number_of_wires, Splits, HasSplitter, SplittersBelow, Grounded}
use Rattle.cell_netlist.specs.Places.{wire_driven_at, wire_read_at}

-- What a netlist with more lines keeps: each place has its wire, chains of splitters lead on, and grounded wires
-- are grounded.
pub record KeepsLines (net after : PlainNetlist) : Type 0 where
  pub drivers : (place : Driver) (wire : WireId) → wire_driven_at net place ≡ Some wire → wire_driven_at after place ≡ Some wire
  pub readers : (place : Reader) (wire : WireId) → wire_read_at net place ≡ Some wire → wire_read_at after place ≡ Some wire
  pub chains : (splitters from to : ℕ) → SplittersBelow net splitters from to → SplittersBelow after splitters from to
  pub grounded : (wire : ℕ) → Grounded net wire → Grounded after wire

-- what more cells add
pub record AddsCells (net after : PlainNetlist) (added : List Cell) : Type 0 where
  pub kept : KeepsLines net after
  pub driven_behind : driven after ≡ driven net ++ flat_map outs added
  pub read_more : (wire : ℕ) → occurrences wire (read after) ≡ occurrences wire (read net) + occurrences wire (flat_map reads added)
  pub wires : number_of_wires after ≡ max (number_of_wires net) (wire_bound (flat_map outs added ++ flat_map reads added))
  pub splitters : (from to : ℕ) → HasSplitter after from to ↔ (HasSplitter net from to ⊎ ((cell : Cell) × IsIn cell added × Splits cell from to))

abbrev pub MoreCellsAdd : Type 0
MoreCellsAdd = (net : PlainNetlist) (added : List Cell) → AddsCells net (record net { cells = net.cells ++ added }) added

-- what one more input rail adds
pub record AddsInput (net after : PlainNetlist) (rail : Rail) : Type 0 where
  pub kept : KeepsLines net after
  pub driven_more : (wire : ℕ) → occurrences wire (driven after) ≡ occurrences wire (driven net) + (if wire == wire_of rail then 1 else 0)
  pub same_read : read after ≡ read net

abbrev pub MoreInputAdds : Type 0
MoreInputAdds = (net : PlainNetlist) (rail : Rail) → AddsInput net (record net { input_rails = net.input_rails ++ rail ∷ [] }) rail

-- what one more output rail adds
pub record AddsOutput (net after : PlainNetlist) (rail : Rail) : Type 0 where
  pub kept : KeepsLines net after
  pub same_driven : driven after ≡ driven net
  pub read_behind : read after ≡ read net ++ wire_of rail ∷ []

abbrev pub MoreOutputAdds : Type 0
MoreOutputAdds = (net : PlainNetlist) (rail : Rail) → AddsOutput net (record net { output_rails = net.output_rails ++ rail ∷ [] }) rail
