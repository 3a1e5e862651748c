-- Laws on the wires of netlists: which lines name them, what their places are, who shares them, where they come
-- from, and what another feed leaves as it is.
use Rattle.std.specs.Prelude.{◌≡◌, ◌↔◌, ◌<◌, ◌+◌, ℕ, Bool, Option, Some, length, slice_get, if◌then◌else◌, ◌==◌}
use Rattle.pulse_ids.specs.Ids.{WireId, numbered}
use Rattle.cell_netlist.specs.declared.lines.Rail.{Rail}
use Rattle.cell_netlist.specs.declared.lines.Cell.{Cell}
use Rattle.cell_netlist.specs.declared.lines.Cell.TheVariants.{Droc}
use Rattle.cell_netlist.specs.declared.lines.Driver.{Driver}
use Rattle.cell_netlist.specs.declared.lines.Reader.{Reader}
use Rattle.cell_netlist.specs.declared.lines.Reader.TheVariants.{Feed}
use Rattle.cell_netlist.specs.declared.kinds.Role.{Role}
use Rattle.pulse_ids.specs.Lists.{IsIn, occurrences}
use Rattle.cell_netlist.specs.Netlists.{PlainNetlist, wire_of, outs, reads, driven, read, number_of_wires, HasSplitter, IsRoot, IsDroc, Grounded, with_feed, cells_with_feed}
use Rattle.cell_netlist.specs.Places.{drivers, readers, IsDriverOf, IsReaderOf, wire_driven_at, wire_read_at}
use Rattle.cell_netlist.specs.Wired.{IsWired}
use Rattle.cell_netlist.specs.Sound.{IsSound}

-- every wire that a line of the netlist names is below the number of wires
pub record NamesWiresBelow (net : PlainNetlist) : Type 0 where
  pub of_input : (rail : Rail) → IsIn rail net.input_rails → wire_of rail < number_of_wires net
  pub of_outs : (cell : Cell) → IsIn cell net.cells → (wire : ℕ) → IsIn wire (outs cell) → wire < number_of_wires net
  pub of_reads : (cell : Cell) → IsIn cell net.cells → (wire : ℕ) → IsIn wire (reads cell) → wire < number_of_wires net
  pub of_output : (rail : Rail) → IsIn rail net.output_rails → wire_of rail < number_of_wires net

abbrev pub NamedWiresAreBelow : Type 0
NamedWiresAreBelow = (net : PlainNetlist) → NamesWiresBelow net

-- a driving place of a wire is the place that the wire is on
abbrev pub DriversAreOnTheirWires : Type 0
DriversAreOnTheirWires = (net : PlainNetlist) (wire : WireId) (place : Driver) → IsIn place (drivers net wire.number) ↔ (wire_driven_at net place ≡ Some wire)

-- a reading place of a wire is the place that the wire is on
abbrev pub ReadersAreOnTheirWires : Type 0
ReadersAreOnTheirWires = (net : PlainNetlist) (wire : WireId) (place : Reader) → IsIn place (readers net wire.number) ↔ (wire_read_at net place ≡ Some wire)

-- a wire that a cell drives is on one of its driving places
abbrev pub OutsHavePlaces : Type 0
OutsHavePlaces = (net : PlainNetlist) (c : ℕ) (cell : Cell) (wire : WireId) → slice_get net.cells c ≡ Some cell → IsIn wire.number (outs cell)
    → (place : Driver) × IsDriverOf place c × (wire_driven_at net place ≡ Some wire)

-- a wire that a cell reads is on one of its reading places
abbrev pub ReadsHavePlaces : Type 0
ReadsHavePlaces = (net : PlainNetlist) (c : ℕ) (cell : Cell) (wire : WireId) → slice_get net.cells c ≡ Some cell → IsIn wire.number (reads cell)
    → (place : Reader) × IsReaderOf place c × (wire_read_at net place ≡ Some wire)

-- two places that drive one wire of a wired netlist are one
abbrev pub DriversAreUnique : Type 0
DriversAreUnique = (net : PlainNetlist) → IsWired net → (wire : WireId) (one other : Driver)
    → wire_driven_at net one ≡ Some wire → wire_driven_at net other ≡ Some wire → one ≡ other

-- two places that read one wire of a wired netlist are one
abbrev pub ReadersAreUnique : Type 0
ReadersAreUnique = (net : PlainNetlist) → IsWired net → (wire : WireId) (one other : Reader)
    → wire_read_at net one ≡ Some wire → wire_read_at net other ≡ Some wire → one ≡ other

-- two cells that drive one wire of a wired netlist are one
abbrev pub DrivingCellsAreUnique : Type 0
DrivingCellsAreUnique = (net : PlainNetlist) → IsWired net → (wire c d : ℕ) (cell other : Cell) → slice_get net.cells c ≡ Some cell
    → slice_get net.cells d ≡ Some other → IsIn wire (outs cell) → IsIn wire (outs other) → (c ≡ d) × (cell ≡ other)

-- two cells that read one wire of a wired netlist are one
abbrev pub ReadingCellsAreUnique : Type 0
ReadingCellsAreUnique = (net : PlainNetlist) → IsWired net → (wire c d : ℕ) (cell other : Cell) → slice_get net.cells c ≡ Some cell
    → slice_get net.cells d ≡ Some other → IsIn wire (reads cell) → IsIn wire (reads other) → (c ≡ d) × (cell ≡ other)

-- every wire of a sound netlist is grounded
abbrev pub WiresAreGrounded : Type 0
WiresAreGrounded = (net : PlainNetlist) → IsSound net → (wire : ℕ) → wire < number_of_wires net → Grounded net wire

-- every wire of a sound netlist has a root
abbrev pub WiresHaveRoots : Type 0
WiresHaveRoots = (net : PlainNetlist) → IsSound net → (wire : ℕ) → wire < number_of_wires net → (root : ℕ) × IsRoot net root wire

-- What another feed of the cell of a number leaves: how many cells there are, all other cells, and all that
-- drives; of what reads all but that feed; where splitters lead; and grounded wires.
pub record LeavesRest (net after : PlainNetlist) (c : ℕ) (feed : WireId) : Type 0 where
  pub count : length after.cells ≡ length net.cells
  pub fed : (cell : Cell) → slice_get net.cells c ≡ Some cell → slice_get after.cells c ≡ Some (with_feed feed cell)
  pub others : (d : ℕ) → (d ≡ c → ⊥) → slice_get after.cells d ≡ slice_get net.cells d
  pub same_driven : driven after ≡ driven net
  pub same_drivers : (wire : ℕ) → drivers after wire ≡ drivers net wire
  pub read_elsewhere : (place : Reader) → (place ≡ Feed (numbered c) → ⊥) → wire_read_at after place ≡ wire_read_at net place
  pub read_there : (cell : Cell) → slice_get net.cells c ≡ Some cell → IsDroc cell → wire_read_at after (Feed (numbered c)) ≡ Some feed
  pub read_moved : (role : Role) (preload : Bool) (old : WireId) (q n : Option WireId) → slice_get net.cells c ≡ Some (Droc role preload old q n)
      → (wire : ℕ) → occurrences wire (read after) + (if wire == old.number then 1 else 0) ≡ occurrences wire (read net) + (if wire == feed.number then 1 else 0)
  pub same_splitters : (from to : ℕ) → HasSplitter after from to ↔ HasSplitter net from to
  pub grounded : (wire : ℕ) → Grounded net wire → Grounded after wire

abbrev pub AnotherFeedLeavesRest : Type 0
AnotherFeedLeavesRest = (net : PlainNetlist) (c : ℕ) (feed : WireId) → LeavesRest net (record net { cells = cells_with_feed c feed net.cells }) c feed
