-- The world of pulses: its state, its start, the opening of a phase and the delivery of a pulse.
use Rattle.std.specs.Prelude.{◌≡◌, ◌+◌, ◌-◌, ℕ, Bool, false, not, Option, Some, None, List, [], ◌∷◌, ◌++◌, map, option_map, unwrap_or, slice_get, if◌then◌else◌, ◌==◌}
use Rattle.pulse_ids.specs.declared.literals.Sign.{Sign}
use Rattle.pulse_ids.specs.declared.literals.Sign.TheVariants.{Pos, Neg}
use Rattle.cell_netlist.specs.declared.kinds.CellState.{CellState}
use Rattle.cell_netlist.specs.declared.kinds.Gate.{Gate}
use Rattle.cell_netlist.specs.declared.kinds.Gate.TheVariants as gates
use Rattle.cell_netlist.specs.declared.kinds.Held.{Held}
use Rattle.cell_netlist.specs.declared.kinds.Held.TheVariants.{Rest}
use Rattle.cell_netlist.specs.declared.kinds.Port.TheVariants as ports
use Rattle.cell_netlist.specs.declared.kinds.Phase.{Phase}
use Rattle.cell_netlist.specs.declared.kinds.Phase.TheVariants.{Excite, Relax}
use Rattle.cell_netlist.specs.declared.lines.Rail.{Rail}
use Rattle.cell_netlist.specs.declared.lines.Cell.{Cell}
use Rattle.cell_netlist.specs.declared.lines.Cell.TheVariants.{La, Fa, Split, Droc}
use Rattle.pulse_ids.specs.Lists.{IsIn, occurrences, bit_at}
use Rattle.cell_netlist.specs.Netlists.{PlainNetlist, wire_of, used, droc_of}
use Rattle.cell_netlist.specs.Tables.{arrival, fed}

-- the cell_state of each cell, the pulses pending on each wire, and the pulses that each output rail has counted
-- in this phase
pub record State : Type 0 where
  pub cell_states : List CellState
  pub pending : ℕ → ℕ
  pub counted : List ℕ

-- what a cell keeps at the start: an LA or FA rests, a DROC holds its preload
abbrev pub preloaded : Cell → CellState
preloaded cell = record { held = Rest; bit = unwrap_or (option_map (λ droc. droc.preload) (droc_of cell)) false }

-- nothing pending and nothing counted
abbrev pub start : PlainNetlist → State
start net = record { cell_states = map preloaded net.cells; pending = λ _. 0; counted = map (λ _. 0) net.output_rails }

-- nothing is pending
abbrev pub IsSettled : State → Type 0
IsSettled state = (wire : ℕ) → state.pending wire ≡ 0

-- the bit with the sign: a bit b has the sign Pos where it is 1 and Neg where it is 0
abbrev pub has_sign : Bool → Sign → Bool
has_sign bit Pos = bit
has_sign bit Neg = not bit

-- whether a rail whose value is this bit pulses in the phase
abbrev pub pulses_in : Phase → Bool → Bool
pulses_in Excite value = value
pulses_in Relax value = not value

-- the wires of the rails on which a vector pulses in a phase, in the order of the rails
abbrev pub rail_pulses : Phase → List Bool → List Rail → List ℕ
rail_pulses phase vector [] = []
rail_pulses phase vector (rail ∷ rails) =
    (if pulses_in phase (has_sign (bit_at vector rail.port) rail.sign) then wire_of rail ∷ [] else []) ++ rail_pulses phase vector rails

-- the wires on which the phase clock makes a cell emit: a DROC on `q` where its bit is 1 and on `n` where it is 0
abbrev pub clocked : Cell → Bool → List ℕ
clocked cell bit = unwrap_or (option_map (λ droc. used (if bit then droc.q else droc.n)) (droc_of cell)) []

-- the wires on which the phase clock makes the cells emit, in the order of the cells
abbrev pub clock_pulses : List Cell → List CellState → List ℕ
clock_pulses [] cell_states = []
clock_pulses (cell ∷ cells) [] = []
clock_pulses (cell ∷ cells) (cell_state ∷ cell_states) = clocked cell cell_state.bit ++ clock_pulses cells cell_states

-- the wires that get a pulse at the opening of a phase
abbrev pub opening_pulses : PlainNetlist → Phase → List Bool → State → List ℕ
opening_pulses net phase vector state = rail_pulses phase vector net.input_rails ++ clock_pulses net.cells state.cell_states

-- the cell_state with the bit 0
abbrev pub cleared : CellState → CellState
cleared cell_state = record { held = cell_state.held; bit = false }

-- a phase opened in one step, where nothing is pending: each DROC's bit becomes 0, the counts become 0
abbrev pub opened : PlainNetlist → Phase → List Bool → State → State
opened net phase vector state = record {
  cell_states = map cleared state.cell_states;
  pending = λ wire. occurrences wire (opening_pulses net phase vector state);
  counted = map (λ _. 0) net.output_rails;
}

-- what a cell does at a pulse: what it keeps then, and the wires on which it emits
pub record Reaction : Type 0 where
  pub cell_state : CellState
  pub emitted : List ℕ

-- the cell does nothing
abbrev pub silent : CellState → Option Reaction
silent cell_state = Some (record { cell_state = cell_state; emitted = [] })

-- a gate's step by its table
abbrev pub gate_step : ℕ → CellState → Option (Held × Bool) → Option Reaction
gate_step out cell_state None = None
gate_step out cell_state (Some line) = Some (record { cell_state = record cell_state { held = line.0 }; emitted = if line.1 then out ∷ [] else [] })

-- a DROC's step by its table
abbrev pub droc_step : CellState → Option Bool → Option Reaction
droc_step cell_state None = None
droc_step cell_state (Some bit) = Some (record { cell_state = record cell_state { bit = bit }; emitted = [] })

-- what a gate does at a pulse on a wire
abbrev pub gate_reaction : Gate → ℕ → ℕ → ℕ → CellState → ℕ → Option Reaction
gate_reaction gate a b out cell_state wire =
    if wire == a then gate_step out cell_state (arrival gate cell_state.held ports.A)
    else if wire == b then gate_step out cell_state (arrival gate cell_state.held ports.B)
    else silent cell_state

-- what a cell does at a pulse on a wire, by the tables, or None where its table has no line; a cell that does
-- not read the wire does nothing
abbrev pub reaction : Cell → CellState → ℕ → Option Reaction
reaction (La a b out) cell_state wire = gate_reaction gates.La a.number b.number out.number cell_state wire
reaction (Fa a b out) cell_state wire = gate_reaction gates.Fa a.number b.number out.number cell_state wire
reaction (Split from left right) cell_state wire =
    if wire == from.number then Some (record { cell_state = cell_state; emitted = left.number ∷ right.number ∷ [] }) else silent cell_state
reaction (Droc role preload feed q n) cell_state wire =
    if wire == feed.number then droc_step cell_state (fed cell_state.bit) else silent cell_state

-- what all cells do at a pulse
pub record Reactions : Type 0 where
  pub cell_states : List CellState
  pub emitted : List ℕ

-- the first cell's reaction before the reactions of the rest
abbrev pub both : Option Reaction → Option Reactions → Option Reactions
both None rest = None
both (Some first) None = None
both (Some first) (Some rest) = Some (record { cell_states = first.cell_state ∷ rest.cell_states; emitted = first.emitted ++ rest.emitted })

-- what the cells do at a pulse on a wire, or None where some table has no line
abbrev pub reactions : List Cell → List CellState → ℕ → Option Reactions
reactions [] cell_states wire = Some (record { cell_states = []; emitted = [] })
reactions (cell ∷ cells) [] wire = None
reactions (cell ∷ cells) (cell_state ∷ cell_states) wire = both (reaction cell cell_state wire) (reactions cells cell_states wire)

-- the counts after a pulse on a wire, which each output rail that reads it counts
abbrev pub counted_after : List Rail → List ℕ → ℕ → List ℕ
counted_after [] counts wire = []
counted_after (rail ∷ rails) [] wire = []
counted_after (rail ∷ rails) (count ∷ counts) wire = (if wire == wire_of rail then count + 1 else count) ∷ counted_after rails counts wire

-- what comes of delivering a wire: nothing is pending there; an upset, after which nothing follows; or a state
pub data Outcome : Type 0 where
  NotPending : Outcome
  Upset : Outcome
  Delivered : State → Outcome

-- the pending pulse is taken away, and what was emitted becomes pending
abbrev pub moved : PlainNetlist → State → ℕ → Option Reactions → Outcome
moved net state wire None = Upset
moved net state wire (Some reacted) = Delivered (record {
  cell_states = reacted.cell_states;
  pending = λ other. (state.pending other - (if wire == other then 1 else 0)) + occurrences other reacted.emitted;
  counted = counted_after net.output_rails state.counted wire;
})

-- one pending pulse of a wire is delivered
abbrev pub deliver : PlainNetlist → State → ℕ → Outcome
deliver net state wire = if state.pending wire == 0 then NotPending else moved net state wire (reactions net.cells state.cell_states wire)

-- the cell that an upset is of: a pulse is pending on the wire, and in this cell's state its table has no line for it
pub record UpsetsCell (net : PlainNetlist) (state : State) (wire c : ℕ) : Type 0 where
  pub pending : state.pending wire ≡ 0 → ⊥
  pub cell : Cell
  pub at : slice_get net.cells c ≡ Some cell
  pub cell_state : CellState
  pub state_at : slice_get state.cell_states c ≡ Some cell_state
  pub no_line : reaction cell cell_state wire ≡ None

-- every LA and FA rests
abbrev pub IsAtRest : State → Type 0
IsAtRest state = (cell_state : CellState) → IsIn cell_state state.cell_states → cell_state.held ≡ Rest
