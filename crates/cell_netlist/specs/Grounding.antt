-- The grounded wires.
use Rattle.std.specs.Prelude.{◌≡◌, ℕ}
use Rattle.cell_netlist.specs.declared.lines.Rail.{Rail}
use Rattle.cell_netlist.specs.declared.lines.Cell.{Cell}
use Rattle.cell_netlist.specs.declared.lines.Cell.TheVariants.{Droc}
use Rattle.pulse_ids.specs.Lists.{IsIn}
use Rattle.cell_netlist.specs.PlainNetlists.{PlainNetlist, wire_of, outs, reads}

-- the cell is a DROC
abbrev pub IsDroc : Cell → Type 0
IsDroc (Droc role preload feed q n) = Unit
IsDroc cell = ⊥

-- The grounded wires: the least set that holds every input rail's wire, every DROC output, and every output
-- of an LA, FA or splitter all of whose input wires are in the set.
pub data Grounded (net : PlainNetlist) : ℕ → Type 0 where
  of_rail : (wire : ℕ) (rail : Rail) → IsIn rail net.input_rails → wire_of rail ≡ wire → Grounded net wire
  of_droc : (wire : ℕ) (cell : Cell) → IsIn cell net.cells → IsDroc cell → IsIn wire (outs cell) → Grounded net wire
  of_gate : (wire : ℕ) (cell : Cell) → IsIn cell net.cells → (IsDroc cell → ⊥) → IsIn wire (outs cell)
      → ((port : ℕ) → IsIn port (reads cell) → Grounded net port) → Grounded net wire
