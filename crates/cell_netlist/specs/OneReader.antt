-- A delivery as what it does at the wire's one reader.
use Rattle.std.specs.Prelude.{◌≡◌, ◌+◌, ◌-◌, ℕ, Bool, Option, Some, None, List, [], ◌∷◌, length, slice_get, slice_index, slice_set, option_and_then, if◌then◌else◌, ◌==◌}
use Rattle.cell_netlist.specs.declared.kinds.Gate.TheVariants as gates
use Rattle.cell_netlist.specs.declared.kinds.Port.TheVariants as ports
use Rattle.cell_netlist.specs.declared.lines.Cell.{Cell}
use Rattle.cell_netlist.specs.declared.lines.Cell.TheVariants.{La, Fa, Split, Droc}
use Rattle.cell_netlist.specs.declared.lines.Reader.{Reader}
use Rattle.cell_netlist.specs.declared.lines.Reader.TheVariants.{A, B, From, Feed, Output}
use Rattle.pulse_ids.specs.Lists.{occurrences}
use Rattle.cell_netlist.specs.Netlists.{PlainNetlist, driven, read}
use Rattle.cell_netlist.specs.Places.{drivers, readers}
use Rattle.cell_netlist.specs.Tables.{arrival, fed}
use Rattle.cell_netlist.specs.declared.kinds.CellState.{CellState}
use Rattle.cell_netlist.specs.World.{State, Reaction, gate_step, droc_step, Outcome, Upset, Delivered, deliver}
use Rattle.cell_netlist.specs.Runs.{Moment, IsMoment}

-- what a cell does at a pulse on one of its ports, or None where its table has no line
abbrev pub port_reaction : Cell → CellState → Reader → Option Reaction
port_reaction (La a b out) cell_state (A id) = gate_step out.number cell_state (arrival gates.La cell_state.held ports.A)
port_reaction (La a b out) cell_state (B id) = gate_step out.number cell_state (arrival gates.La cell_state.held ports.B)
port_reaction (Fa a b out) cell_state (A id) = gate_step out.number cell_state (arrival gates.Fa cell_state.held ports.A)
port_reaction (Fa a b out) cell_state (B id) = gate_step out.number cell_state (arrival gates.Fa cell_state.held ports.B)
port_reaction (Split from left right) cell_state (From id) = Some (record { cell_state = cell_state; emitted = left.number ∷ right.number ∷ [] })
port_reaction (Droc role preload feed q n) cell_state (Feed id) = droc_step cell_state (fed cell_state.bit)
port_reaction cell cell_state reader = None

-- what the cell of a number does at a pulse on one of its ports
abbrev pub reaction_at : List Cell → List CellState → ℕ → Reader → Option Reaction
reaction_at cells cell_states c reader =
    option_and_then (λ cell. option_and_then (λ cell_state. port_reaction cell cell_state reader) (slice_get cell_states c)) (slice_get cells c)

-- the pulse is taken away, and the cell of a number keeps and emits what its reaction says
abbrev pub after_reaction : State → ℕ → ℕ → Option Reaction → Outcome
after_reaction state wire c None = Upset
after_reaction state wire c (Some reacted) = Delivered (record {
  cell_states = slice_set state.cell_states c reacted.cell_state;
  pending = λ other. (state.pending other - (if wire == other then 1 else 0)) + occurrences other reacted.emitted;
  counted = state.counted;
})

-- the pulse is taken away, and the output rail of a number counts it
abbrev pub after_count : State → ℕ → ℕ → Outcome
after_count state wire r = Delivered (record {
  cell_states = state.cell_states;
  pending = λ other. state.pending other - (if wire == other then 1 else 0);
  counted = slice_set state.counted r (slice_index state.counted r + 1);
})

-- what comes of a pulse on a wire at one reader
abbrev pub delivered_to : PlainNetlist → State → ℕ → Reader → Outcome
delivered_to net state wire (A id) = after_reaction state wire id.number (reaction_at net.cells state.cell_states id.number (A id))
delivered_to net state wire (B id) = after_reaction state wire id.number (reaction_at net.cells state.cell_states id.number (B id))
delivered_to net state wire (From id) = after_reaction state wire id.number (reaction_at net.cells state.cell_states id.number (From id))
delivered_to net state wire (Feed id) = after_reaction state wire id.number (reaction_at net.cells state.cell_states id.number (Feed id))
delivered_to net state wire (Output id) = after_count state wire id.number

-- The delivery of a pending wire with one reader is what comes of the pulse there, where there is one cell_state a
-- cell and one count an output rail.
abbrev pub DeliveryIsToReader : Type 0
DeliveryIsToReader = (net : PlainNetlist) (state : State) (wire : ℕ) (reader : Reader) → readers net wire ≡ reader ∷ []
    → length state.cell_states ≡ length net.cells → length state.counted ≡ length net.output_rails → (state.pending wire ≡ 0 → ⊥)
    → deliver net state wire ≡ delivered_to net state wire reader

-- a wire has as many driving places as it is driven, and as many reading places as it is read
abbrev pub PlacesAreCounted : Type 0
PlacesAreCounted = (net : PlainNetlist) (wire : ℕ)
    → (length (drivers net wire) ≡ occurrences wire (driven net)) × (length (readers net wire) ≡ occurrences wire (read net))

-- at every moment there is one cell_state a cell and one count an output rail
abbrev pub MomentsKeepShape : Type 0
MomentsKeepShape = (net : PlainNetlist) (vectors : List (List Bool)) (moment : Moment) → IsMoment net vectors moment
    → (length moment.state.cell_states ≡ length net.cells) × (length moment.state.counted ≡ length net.output_rails)
