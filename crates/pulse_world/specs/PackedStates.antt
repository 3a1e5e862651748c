-- The states of a netlist's cells in two bits a cell.
use Rattle.std.specs.Prelude.{◌≡◌, ◌<◌, ◌+◌, ◌*◌, ◌^◌, ℕ, Bool, true, false, Some, List, [], ◌∷◌, map, length, slice_get, slice_set, if◌then◌else◌}
use Rattle.pulse_ids.specs.Ids.{CellId}
use Rattle.cell_netlist.specs.declared.kinds.Held.{Held}
use Rattle.cell_netlist.specs.declared.kinds.Held.TheVariants.{Rest, HasA, HasB}
use Rattle.cell_netlist.specs.declared.kinds.Port.{Port}
use Rattle.cell_netlist.specs.declared.kinds.Port.TheVariants.{A, B}
use Rattle.cell_netlist.specs.declared.kinds.CellState.{CellState}
use Rattle.cell_netlist.specs.declared.lines.Cell.{Cell}
use Rattle.cell_netlist.specs.declared.lines.Cell.TheVariants.{La, Fa, Split, Droc}

-- cells, and what each of them keeps
pub record PlainStates : Type 0 where
  pub cells : List Cell
  pub states : List CellState

-- The states that a cell can keep: an LA or FA has no bit, a DROC holds no pulse, and a splitter keeps nothing.
abbrev pub IsStateOf : Cell → CellState → Type 0
IsStateOf (La a b out) state = state.bit ≡ false
IsStateOf (Fa a b out) state = state.bit ≡ false
IsStateOf (Split from left right) state = (state.held ≡ Rest) × (state.bit ≡ false)
IsStateOf (Droc role preload feed q n) state = state.held ≡ Rest

-- what a DROC with this bit keeps
abbrev pub droc_with : Bool → CellState
droc_with bit = record { held = Rest; bit = bit }

-- There is one state a cell, and each is one that its cell can keep.
pub record AreStatesOf (kept : PlainStates) : Type 0 where
  pub one_each : length kept.states ≡ length kept.cells
  pub fits : (c : ℕ) (cell : Cell) (state : CellState) → slice_get kept.cells c ≡ Some cell → slice_get kept.states c ≡ Some state → IsStateOf cell state

-- whether a cell is a DROC
abbrev pub is_droc : Cell → Bool
is_droc (La a b out) = false
is_droc (Fa a b out) = false
is_droc (Split from left right) = false
is_droc (Droc role preload feed q n) = true

-- whether it is an LA or FA
abbrev pub is_gate : Cell → Bool
is_gate (La a b out) = true
is_gate (Fa a b out) = true
is_gate (Split from left right) = false
is_gate (Droc role preload feed q n) = false

-- the cell of this number is a DROC
abbrev pub IsDrocAt : PlainStates → ℕ → Type 0
IsDrocAt kept c = (cell : Cell) × (slice_get kept.cells c ≡ Some cell) × (is_droc cell ≡ true)

-- the numbers of the DROCs among cells that are numbered from the first one's number
abbrev pub drocs_from : ℕ → List Cell → List ℕ
drocs_from c [] = []
drocs_from c (cell ∷ cells) = if is_droc cell then c ∷ drocs_from (c + 1) cells else drocs_from (c + 1) cells

-- the numbers of these cells
abbrev pub numbers_in : List CellId → List ℕ
numbers_in ids = map (λ id. id.number) ids

-- what an LA or FA holds by its two bits: at 00 it rests, at 10 it holds a pulse of `a`, and at 01 one of `b`
abbrev pub held_by : Bool → Bool → Held
held_by false false = Rest
held_by true second = HasA
held_by false true = HasB

-- what a cell keeps by its two bits, of which a DROC's bit is the first
abbrev pub state_by : Cell → Bool → Bool → CellState
state_by (La a b out) first second = record { held = held_by first second; bit = false }
state_by (Fa a b out) first second = record { held = held_by first second; bit = false }
state_by (Split from left right) first second = record { held = Rest; bit = false }
state_by (Droc role preload feed q n) first second = record { held = Rest; bit = first }

-- The place of a cell's bit: that of port a, or a DROC's bit, and behind it that of port b.
abbrev pub bit_place : ℕ → Port → ℕ
bit_place c A = 2 * c
bit_place c B = 2 * c + 1

-- what each cell keeps by its two bits
abbrev pub states_by : List Cell → List Bool → List CellState
states_by [] bits = []
states_by (cell ∷ cells) [] = []
states_by (cell ∷ cells) (first ∷ []) = []
states_by (cell ∷ cells) (first ∷ second ∷ bits) = state_by cell first second ∷ states_by cells bits

-- cells with what they keep by their bits
abbrev pub packed_states : List Cell → List Bool → PlainStates
packed_states cells bits = record { cells = cells; states = states_by cells bits }

-- Each cell has two bits. In an LA, an FA and a splitter they are not both 1.
pub record ArePacked (cells : List Cell) (bits : List Bool) : Type 0 where
  pub two_each : length bits ≡ 2 * length cells
  pub few : length cells < 2 ^ 31
  pub apart : (c : ℕ) (cell : Cell) → slice_get cells c ≡ Some cell → is_droc cell ≡ false
      → slice_get bits (bit_place c A) ≡ Some true → slice_get bits (bit_place c B) ≡ Some true → ⊥

-- the other port of a gate
abbrev pub other_port : Port → Port
other_port A = B
other_port B = A

-- an LA or FA that holds this
abbrev pub gate_with : Held → CellState
gate_with held = record { held = held; bit = false }

-- what a gate holds that got a pulse on one port
abbrev pub held_of : Port → Held
held_of A = HasA
held_of B = HasB

-- the cell of this number is an LA or FA that holds no pulse of the port
pub record IsFreeAt (kept : PlainStates) (c : ℕ) (port : Port) : Type 0 where
  pub cell : Cell
  pub state : CellState
  pub at_cell : slice_get kept.cells c ≡ Some cell
  pub at_state : slice_get kept.states c ≡ Some state
  pub gate : is_gate cell ≡ true
  pub free : state.held ≡ held_of port → ⊥

-- It got a pulse on the port: where it held one of the other port it rests then, and else it holds that of the port.
pub record HasPulsed (before after : PlainStates) (c : ℕ) (port : Port) (met : Bool) : Type 0 where
  pub was : slice_get before.states c ≡ Some (gate_with (if met then held_of (other_port port) else Rest))
  pub is : after ≡ record before { states = slice_set before.states c (gate_with (if met then Rest else held_of port)) }

-- a cell that keeps nothing
abbrev pub nothing_kept : Cell → CellState
nothing_kept cell = record { held = Rest; bit = false }

-- how often rails pulsed by one bit each
abbrev pub counts_by : List Bool → List ℕ
counts_by rails = map (λ pulsed. if pulsed then 1 else 0) rails
