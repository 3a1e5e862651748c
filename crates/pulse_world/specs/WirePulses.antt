-- Openings and deliveries on wires: on which wires a pulse becomes pending, and where those stand in the engine's queue.
use Rattle.std.specs.Prelude.{◌≡◌, ◌⊎◌, ◌↔◌, ◌+◌, ◌-◌, ℕ, Bool, true, Option, Some, None, List, [], ◌∷◌, ◌++◌, length, slice_get, if◌then◌else◌}
use Rattle.std.specs.List.{swap_remove}
use Rattle.pulse_ids.specs.Ids.{WireId}
use Rattle.pulse_ids.specs.Lists.{IsIn, bit_at}
use Rattle.cell_netlist.specs.declared.kinds.CellState.{CellState}
use Rattle.cell_netlist.specs.declared.kinds.Phase.{Phase}
use Rattle.cell_netlist.specs.declared.lines.Cell.{Cell}
use Rattle.cell_netlist.specs.declared.lines.Rail.{Rail}
use Rattle.cell_netlist.specs.declared.lines.Reader.{Reader}
use Rattle.cell_netlist.specs.declared.lines.Reader.TheVariants.{A, B, From, Feed, Output}
use Rattle.cell_netlist.specs.Netlists.{PlainNetlist, PlainDroc, droc_of, outs, wire_of}
use Rattle.cell_netlist.specs.Places.{readers}
use Rattle.cell_netlist.specs.Runs.{Moment, IsMoment, next_stage, OpensPhase, DeliversPulse}
use Rattle.cell_netlist.specs.World.{State, has_sign, pulses_in, opening_pulses}
use Rattle.pulse_world.specs.Worlds.{PlainWorld, DeliversAt}

-- an input rail on the wire pulses in the phase by the vector
pub record RailPulsesOn (net : PlainNetlist) (phase : Phase) (vector : List Bool) (wire : ℕ) : Type 0 where
  pub rail : Rail
  pub among : IsIn rail net.input_rails
  pub on : wire_of rail ≡ wire
  pub pulses : pulses_in phase (has_sign (bit_at vector rail.port) rail.sign) ≡ true

-- a DROC's output is on the wire: `q` where the DROC's bit is 1, and `n` where it is 0
pub record DrocPulsesOn (net : PlainNetlist) (cell_states : List CellState) (wire : ℕ) : Type 0 where
  pub number : ℕ
  pub cell : Cell
  pub droc : PlainDroc
  pub kept : CellState
  pub output : WireId
  pub at : slice_get net.cells number ≡ Some cell
  pub is_droc : droc_of cell ≡ Some droc
  pub keeps : slice_get cell_states number ≡ Some kept
  pub pulses : (if kept.bit then droc.q else droc.n) ≡ Some output
  pub on : output.number ≡ wire

-- the wires of the pulses of an opening are exactly those of input rails and of DROC outputs that pulse
abbrev pub OpeningsPulse : Type 0
OpeningsPulse =
    (net : PlainNetlist) (phase : Phase) (vector : List Bool) (state : State) (wire : ℕ)
    → IsIn wire (opening_pulses net phase vector state) ↔ (RailPulsesOn net phase vector wire ⊎ DrocPulsesOn net state.cell_states wire)

-- and after an opening exactly these are pending
abbrev pub OpeningsArePending : Type 0
OpeningsArePending =
    (net : PlainNetlist) (vectors : List (List Bool)) (before after : Moment) → (opens : OpensPhase net vectors before after) → (wire : ℕ)
    → (after.state.pending wire ≡ 0 → ⊥)
    ↔ (RailPulsesOn net (next_stage before.stage).phase opens.vector wire ⊎ DrocPulsesOn net before.state.cell_states wire)

-- the wires that a cell drives, if there is one
abbrev pub outs_of : Option Cell → List ℕ
outs_of None = []
outs_of (Some cell) = outs cell

-- the outputs of a reader: those of its cell, and none of an output rail
abbrev pub outputs_of : List Cell → Reader → List ℕ
outputs_of cells (A id) = outs_of (slice_get cells id.number)
outputs_of cells (B id) = outs_of (slice_get cells id.number)
outputs_of cells (From id) = outs_of (slice_get cells id.number)
outputs_of cells (Feed id) = outs_of (slice_get cells id.number)
outputs_of cells (Output id) = []

-- what is pending after a delivery was so before, or is an output of the wire's one reader
abbrev pub DeliveriesEmit : Type 0
DeliveriesEmit =
    (net : PlainNetlist) (vectors : List (List Bool)) (before after : Moment) (wire : ℕ) (reader : Reader) → IsMoment net vectors before
    → readers net wire ≡ reader ∷ [] → DeliversPulse net wire before after → (other : ℕ) → (after.state.pending other ≡ 0 → ⊥)
    → (before.state.pending other ≡ 0 → ⊥) ⊎ IsIn other (outputs_of net.cells reader)

-- What a delivery at a place of the engine's queue emits: outputs of the wire's one reader. They stand at the last places of
-- the queue, from the one on that was its last place before; the place of the wire itself has what stood there.
pub record EmitsBehind (before after : PlainWorld) (place wire : ℕ) : Type 0 where
  pub reader : Reader
  pub reads : readers before.net wire ≡ reader ∷ []
  pub emitted : List ℕ
  pub outputs : (other : ℕ) → IsIn other emitted → IsIn other (outputs_of before.net.cells reader)
  pub queue : after.queue ≡ swap_remove before.queue place 0 ++ emitted
  pub count : length after.queue + 1 ≡ length before.queue + length emitted
  pub last : (k : ℕ) → slice_get after.queue (length before.queue - 1 + k) ≡ slice_get emitted k

abbrev pub DeliveriesEmitBehind : Type 0
DeliveriesEmitBehind = (before after : PlainWorld) (place wire : ℕ) → DeliversAt before after place wire → EmitsBehind before after place wire
