-- Runs, places and upsets of small netlists.
use Rattle.std.specs.Prelude.{◌≡◌, ℕ, Bool, true, false, Some, List, [], ◌∷◌, map}
use Rattle.pulse_ids.specs.Ids.{numbered}
use Rattle.pulse_ids.specs.declared.literals.Sign.TheVariants.{Pos, Neg}
use Rattle.cell_netlist.specs.declared.kinds.Ask.TheVariants as asks
use Rattle.cell_netlist.specs.declared.kinds.Held.{Held}
use Rattle.cell_netlist.specs.declared.kinds.Held.TheVariants.{Rest, HasB}
use Rattle.cell_netlist.specs.declared.kinds.Phase.{Phase}
use Rattle.cell_netlist.specs.declared.kinds.Phase.TheVariants.{Excite, Relax}
use Rattle.cell_netlist.specs.declared.kinds.Role.TheVariants.{Const}
use Rattle.cell_netlist.specs.declared.lines.Driver.TheVariants as drivers_of
use Rattle.cell_netlist.specs.declared.lines.Reader.TheVariants as readers_of
use Rattle.pulse_ids.specs.Lists.{bit_at}
use Rattle.cell_netlist.specs.Netlists.{PlainNetlist, number_of_wires}
use Rattle.cell_netlist.specs.Places.{drivers, readers}
use Rattle.cell_netlist.specs.declared.kinds.CellState.{CellState}
use Rattle.cell_netlist.specs.World.{State, IsSettled, IsAtRest, Upset, NotPending, Delivered, deliver}
use Rattle.cell_netlist.specs.Runs.{Moment, IsMoment}
use Rattle.cell_netlist.specs.Sound.{IsSound}
use Rattle.cell_netlist.specs.RailEquations.{IsNetRun}
use Rattle.cell_netlist.specs.Lean.{IsLean}
use Rattle.cell_netlist.specs.Asked.{Asks, asked_rails}
use Rattle.cell_netlist.specs.ExampleNetlists.{constant_one, droc, fa, half_adder, la, plain, toggle, unused}

-- the cell_state of a gate that holds this
abbrev pub holds : Held → CellState
holds held = record { held = held; bit = false }

-- the cell_state of a DROC with this bit
abbrev pub keeps : Bool → CellState
keeps bit = record { held = Rest; bit = bit }

-- Some run on the vectors opens the phase of the cycle, has then delivered these wires in this order, is settled,
-- has these counts, and its state is such.
pub record Settles (net : PlainNetlist) (vectors : List (List Bool)) (cycle : ℕ) (phase : Phase) (order counts : List ℕ) (such : State → Type 0) : Type 0 where
  pub moment : Moment
  pub reached : IsMoment net vectors moment
  pub stage : moment.stage ≡ Some (record { cycle = cycle; phase = phase })
  pub delivered : moment.delivered ≡ order
  pub settled : IsSettled moment.state
  pub counted : moment.state.counted ≡ counts
  pub state : such moment.state

-- the state has these cell_states
abbrev pub HasCellStates : List CellState → State → Type 0
HasCellStates cell_states state = state.cell_states ≡ cell_states

-- and every gate rests
abbrev pub RestsWith : List CellState → State → Type 0
RestsWith cell_states state = (state.cell_states ≡ cell_states) × IsAtRest state

-- two vectors of no bits
abbrev pub two_empty : List (List Bool)
two_empty = [] ∷ [] ∷ []

-- it is sound
abbrev pub ToggleIsSound : Type 0
ToggleIsSound = IsSound toggle

-- it counts 0 1 in the first excite and 1 0 in the first relax, after which the back holds 1 and the front 0
abbrev pub ToggleRuns : Type 0
ToggleRuns =
    Settles toggle two_empty 0 Excite (1 ∷ 4 ∷ 2 ∷ 3 ∷ []) (0 ∷ 1 ∷ []) (HasCellStates (keeps true ∷ keeps false ∷ keeps true ∷ []))
    × Settles toggle two_empty 0 Relax (0 ∷ 4 ∷ []) (1 ∷ 0 ∷ []) (RestsWith (keeps true ∷ keeps false ∷ keeps false ∷ []))
    × Settles toggle two_empty 1 Excite (0 ∷ []) (1 ∷ 0 ∷ []) (HasCellStates (keeps false ∷ keeps false ∷ keeps false ∷ []))
    × Settles toggle two_empty 1 Relax (1 ∷ 3 ∷ 2 ∷ []) (0 ∷ 1 ∷ []) (RestsWith (keeps false ∷ keeps false ∷ keeps true ∷ []))

-- its equations have a run, and every run of them gives output 0 the bits 0 and 1, and output 1 the bits 1 and 0
abbrev pub ToggleBits : Type 0
ToggleBits =
    IsNetRun toggle two_empty ((false ∷ true ∷ true ∷ true ∷ false ∷ []) ∷ (true ∷ false ∷ false ∷ false ∷ true ∷ []) ∷ [])
    × ((run : List (List Bool)) → IsNetRun toggle two_empty run
    → (map (λ bits. bit_at bits 0) run ≡ false ∷ true ∷ []) × (map (λ bits. bit_at bits 3) run ≡ true ∷ false ∷ []))

-- the vector of two ones
abbrev pub ones : List (List Bool)
ones = (true ∷ true ∷ []) ∷ []

-- it is sound
abbrev pub HalfAdderIsSound : Type 0
HalfAdderIsSound = IsSound half_adder

-- it is lean
abbrev pub HalfAdderIsLean : Type 0
HalfAdderIsLean = IsLean half_adder

-- on 11 two orders of excite count the same, and two orders of relax too, after which every gate rests
abbrev pub HalfAdderRuns : Type 0
HalfAdderRuns =
    Settles half_adder ones 0 Excite (0 ∷ 2 ∷ 5 ∷ 7 ∷ 10 ∷ 6 ∷ 4 ∷ 8 ∷ []) (0 ∷ 1 ∷ [])
    (HasCellStates (holds Rest ∷ holds Rest ∷ holds Rest ∷ holds Rest ∷ holds Rest ∷ holds HasB ∷ []))
    × Settles half_adder ones 0 Excite (2 ∷ 7 ∷ 10 ∷ 6 ∷ 0 ∷ 5 ∷ 4 ∷ 8 ∷ []) (0 ∷ 1 ∷ [])
    (HasCellStates (holds Rest ∷ holds Rest ∷ holds Rest ∷ holds Rest ∷ holds Rest ∷ holds HasB ∷ []))
    × Settles half_adder ones 0 Relax (3 ∷ 9 ∷ 11 ∷ 1 ∷ []) (1 ∷ 0 ∷ [])
    (RestsWith (holds Rest ∷ holds Rest ∷ holds Rest ∷ holds Rest ∷ holds Rest ∷ holds Rest ∷ []))
    × Settles half_adder ones 0 Relax (1 ∷ 9 ∷ 3 ∷ 11 ∷ []) (1 ∷ 0 ∷ [])
    (RestsWith (holds Rest ∷ holds Rest ∷ holds Rest ∷ holds Rest ∷ holds Rest ∷ holds Rest ∷ []))

-- where wires of the half adder are driven and read
abbrev pub HalfAdderPlaces : Type 0
HalfAdderPlaces =
    (drivers half_adder 3 ≡ drivers_of.Input (numbered 3) ∷ [])
    × (readers half_adder 3 ≡ readers_of.B (numbered 3) ∷ [])
    × (drivers half_adder 5 ≡ drivers_of.Right (numbered 0) ∷ [])
    × (drivers half_adder 6 ≡ drivers_of.Left (numbered 1) ∷ [])
    × (readers half_adder 5 ≡ readers_of.A (numbered 4) ∷ [])
    × (readers half_adder 2 ≡ readers_of.From (numbered 1) ∷ [])
    × (drivers half_adder 8 ≡ drivers_of.Out (numbered 2) ∷ [])
    × (readers half_adder 8 ≡ readers_of.Output (numbered 1) ∷ [])
    × (drivers half_adder 12 ≡ [])
    × (readers half_adder 12 ≡ [])
    × (drivers toggle 0 ≡ drivers_of.Q (numbered 0) ∷ [])
    × (drivers toggle 1 ≡ drivers_of.N (numbered 0) ∷ [])
    × (readers toggle 4 ≡ readers_of.Feed (numbered 0) ∷ [])
    × (number_of_wires half_adder ≡ 12)

-- the half adder has the positive rail of each output, and no other
abbrev pub HalfAdderAsks : Type 0
HalfAdderAsks = Asks asks.Pos 2 half_adder
    × (asked_rails asks.Neg 1 ≡ (0, Neg) ∷ [])
    × (asked_rails asks.Both 2 ≡ (0, Pos) ∷ (0, Neg) ∷ (1, Pos) ∷ (1, Neg) ∷ [])

-- it does so in three phases
abbrev pub ConstantRuns : Type 0
ConstantRuns = IsSound constant_one
    × Settles constant_one two_empty 0 Excite (0 ∷ []) (1 ∷ []) (HasCellStates (keeps false ∷ []))
    × Settles constant_one two_empty 0 Relax (1 ∷ []) (0 ∷ []) (RestsWith (keeps true ∷ []))
    × Settles constant_one two_empty 1 Excite (0 ∷ []) (1 ∷ []) (HasCellStates (keeps false ∷ []))

-- one cell with two pulses pending on each wire
abbrev pub twice : CellState → State
twice cell_state = record { cell_states = cell_state ∷ []; pending = λ wire. 2; counted = [] }

-- the first pulse on wire 0 is delivered, and the second is an upset
abbrev pub SecondIsUpset : PlainNetlist → State → Type 0
SecondIsUpset net state = (after : State) × (deliver net state 0 ≡ Delivered after) × (deliver net after 0 ≡ Upset)

-- that is so at each port of a gate and at a feed, and where nothing is pending nothing is delivered
abbrev pub UpsetsAreSeen : Type 0
UpsetsAreSeen =
    SecondIsUpset (plain 0 0 [] (la 0 1 2 ∷ []) []) (twice (keeps false))
    × SecondIsUpset (plain 0 0 [] (la 1 0 2 ∷ []) []) (twice (keeps false))
    × SecondIsUpset (plain 0 0 [] (fa 0 1 2 ∷ []) []) (twice (keeps false))
    × SecondIsUpset (plain 0 0 [] (fa 1 0 2 ∷ []) []) (twice (keeps false))
    × SecondIsUpset (plain 0 0 [] (droc Const true 0 unused unused ∷ []) []) (twice (keeps false))
    × (deliver half_adder (record { cell_states = []; pending = λ wire. 0; counted = [] }) 0 ≡ NotPending)
