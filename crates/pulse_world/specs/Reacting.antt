-- What the engine keeps and emits, in the words of the world of pulses.
use Rattle.std.specs.Prelude.{◌≡◌, ℕ, Option, Some, None, List, [], ◌∷◌, slice_get, slice_set}
use Rattle.pulse_ids.specs.Ids.{CellId, WireId}
use Rattle.cell_netlist.specs.declared.kinds.Gate.{Gate}
use Rattle.cell_netlist.specs.declared.kinds.Gate.TheVariants as gates
use Rattle.cell_netlist.specs.declared.kinds.Port.{Port}
use Rattle.cell_netlist.specs.declared.kinds.Port.TheVariants as ports
use Rattle.cell_netlist.specs.declared.lines.Cell.{Cell}
use Rattle.cell_netlist.specs.declared.lines.Cell.TheVariants as cells_of
use Rattle.cell_netlist.specs.declared.lines.Reader.{Reader}
use Rattle.cell_netlist.specs.declared.lines.Reader.TheVariants as readers
use Rattle.cell_netlist.specs.OneReader.{reaction_at}
use Rattle.cell_netlist.specs.declared.kinds.CellState.{CellState}
use Rattle.cell_netlist.specs.World.{Reaction}
use Rattle.pulse_world.specs.PackedStates.{PlainStates}
use Rattle.pulse_world.specs.declared.reacting.Emitted.{Emitted}
use Rattle.pulse_world.specs.declared.reacting.Emitted.TheVariants.{Nothing, One, Two}
use Rattle.pulse_world.specs.declared.reacting.Target.{Target}
use Rattle.pulse_world.specs.declared.reacting.Target.TheVariants as targets

-- the emitted wires in order
abbrev pub wires_of : Emitted → List ℕ
wires_of Nothing = []
wires_of (One wire) = wire.number ∷ []
wires_of (Two first later) = first.number ∷ later.number ∷ []

-- the cell or the output rail of a reader
abbrev pub target_at : Reader → Target
target_at (readers.A id) = targets.Cell id
target_at (readers.B id) = targets.Cell id
target_at (readers.From id) = targets.Cell id
target_at (readers.Feed id) = targets.Cell id
target_at (readers.Output id) = targets.Rail id

-- a cell is this gate, with this output
abbrev pub IsGate : Cell → Gate → WireId → Type 0
IsGate (cells_of.La a b its_out) gate out = (gate ≡ gates.La) × (its_out ≡ out)
IsGate (cells_of.Fa a b its_out) gate out = (gate ≡ gates.Fa) × (its_out ≡ out)
IsGate (cells_of.Split from left right) gate out = ⊥
IsGate (cells_of.Droc role preload feed q n) gate out = ⊥

-- the cell of a number is this gate, with this output
abbrev pub IsGateAt : PlainStates → ℕ → Gate → WireId → Type 0
IsGateAt kept c gate out = (cell : Cell) × (slice_get kept.cells c ≡ Some cell) × IsGate cell gate out

-- the port of a gate as a reader
abbrev pub port_of : Port → CellId → Reader
port_of ports.A id = readers.A id
port_of ports.B id = readers.B id

-- the table of the cell of a number has an entry for a pulse at a reader
abbrev pub Reacts : PlainStates → ℕ → Reader → Type 0
Reacts kept c reader = (reacted : Reaction) × (reaction_at kept.cells kept.states c reader ≡ Some reacted)

-- By that entry the cell keeps what it does after the pulse, all others keep theirs, and these wires are emitted.
pub record HasReacted (before after : PlainStates) (c : ℕ) (reader : Reader) (emitted : Emitted) : Type 0 where
  pub reacted : Reaction
  pub by_table : reaction_at before.cells before.states c reader ≡ Some reacted
  pub keeps : after ≡ record before { states = slice_set before.states c reacted.cell_state }
  pub emits : wires_of emitted ≡ reacted.emitted

-- what a reaction emits
abbrev pub emitted_by : Option Reaction → List ℕ
emitted_by None = []
emitted_by (Some reacted) = reacted.emitted

-- what a pulse at a reader makes its cell emit, in order, and nothing at an output rail
abbrev pub emitted_at : List Cell → List CellState → Reader → List ℕ
emitted_at cells cell_states (readers.A id) = emitted_by (reaction_at cells cell_states id.number (readers.A id))
emitted_at cells cell_states (readers.B id) = emitted_by (reaction_at cells cell_states id.number (readers.B id))
emitted_at cells cell_states (readers.From id) = emitted_by (reaction_at cells cell_states id.number (readers.From id))
emitted_at cells cell_states (readers.Feed id) = emitted_by (reaction_at cells cell_states id.number (readers.Feed id))
emitted_at cells cell_states (readers.Output id) = []
