-- The equations of a netlist's rails: a bit for each wire, with no pulse and no order; the netlist's run by
-- them; and in which phase each wire is due a pulse.
use Rattle.std.specs.Prelude.{◌≡◌, ℕ, Bool, false, not, ◌&&◌, ◌||◌, Option, Some, None, List, [], ◌∷◌, length, option_map, unwrap_or, if◌then◌else◌, ◌==◌}
use Rattle.std.specs.List.{list_any}
use Rattle.pulse_ids.specs.Ids.{WireId}
use Rattle.cell_netlist.specs.declared.kinds.Role.TheVariants.{Front, Back, Const}
use Rattle.cell_netlist.specs.declared.kinds.Phase.{Phase}
use Rattle.cell_netlist.specs.declared.kinds.Phase.TheVariants.{Excite, Relax}
use Rattle.cell_netlist.specs.declared.lines.Rail.{Rail}
use Rattle.cell_netlist.specs.declared.lines.Cell.{Cell}
use Rattle.cell_netlist.specs.declared.lines.Cell.TheVariants.{La, Fa, Split, Droc}
use Rattle.pulse_ids.specs.Lists.{IsIn, bit_at}
use Rattle.cell_netlist.specs.Netlists.{PlainNetlist, wire_of, droc_of, number_of_wires}
use Rattle.cell_netlist.specs.World.{has_sign, pulses_in}

-- A state of the latches gives a bit to each back. A back is known by its link, the wire from its front.
abbrev pub LatchState : Type 0
LatchState = ℕ → Bool

-- an output that is used carries the bit
abbrev pub CarriesIfUsed : (ℕ → Bool) → Option WireId → Bool → Type 0
CarriesIfUsed bit None value = Unit
CarriesIfUsed bit (Some wire) value = bit wire.number ≡ value

-- The equation of a cell: an LA's output is the and of its inputs, an FA's the or; a splitter copies; a back's
-- `q` has its state's bit and a constant's its preload, and `n` the complement; a front has none.
abbrev pub CellEquation : LatchState → (ℕ → Bool) → Cell → Type 0
CellEquation state bit (La a b out) = bit out.number ≡ (bit a.number && bit b.number)
CellEquation state bit (Fa a b out) = bit out.number ≡ (bit a.number || bit b.number)
CellEquation state bit (Split from left right) = (bit left.number ≡ bit from.number) × (bit right.number ≡ bit from.number)
CellEquation state bit (Droc Front preload feed q n) = Unit
CellEquation state bit (Droc Back preload feed q n) = CarriesIfUsed bit q (state feed.number) × CarriesIfUsed bit n (not (state feed.number))
CellEquation state bit (Droc Const preload feed q n) = CarriesIfUsed bit q preload × CarriesIfUsed bit n (not preload)

-- these bits, one a wire, meet the equations for a state and a vector
pub record IsRails (net : PlainNetlist) (state : LatchState) (vector : List Bool) (bits : List Bool) : Type 0 where
  pub length_is : length bits ≡ number_of_wires net
  pub rails : (rail : Rail) → IsIn rail net.input_rails → bit_at bits (wire_of rail) ≡ has_sign (bit_at vector rail.port) rail.sign
  pub cells : (cell : Cell) → IsIn cell net.cells → CellEquation state (bit_at bits) cell

-- whether an output is on a wire
abbrev pub is_on : Option WireId → ℕ → Bool
is_on None wire = false
is_on (Some used) wire = wire == used.number

-- whether a cell is the front whose `q` is this wire
abbrev pub is_front_to : ℕ → Cell → Bool
is_front_to link (Droc Front preload feed q n) = is_on q link
is_front_to link cell = false

-- whether a cell is the back whose feed is this wire
abbrev pub is_back_from : ℕ → Cell → Bool
is_back_from link (Droc Back preload feed q n) = link == feed.number
is_back_from link cell = false

-- a DROC's feed and preload (0 for other cells)
abbrev pub feed_of : Cell → ℕ
feed_of cell = unwrap_or (option_map (λ droc. droc.feed) (droc_of cell)) 0

abbrev pub preload_of : Cell → Bool
preload_of cell = unwrap_or (option_map (λ droc. droc.preload) (droc_of cell)) false

-- what a function gives of the one cell with a test, and 0 where none has it
abbrev pub of_the : (Cell → Bool) → (Cell → Bool) → List Cell → Bool
of_the test value [] = false
of_the test value (cell ∷ cells) = if test cell then value cell else of_the test value cells

-- the first state: each back holds its preload
abbrev pub first_state : PlainNetlist → LatchState
first_state net link = of_the (is_back_from link) preload_of net.cells

-- the next state of a back is the bit of its front's feed
abbrev pub next_state : PlainNetlist → List Bool → LatchState
next_state net bits link = of_the (is_front_to link) (λ cell. bit_at bits (feed_of cell)) net.cells

-- one list of bits a vector, from a state on
abbrev pub IsNetRunFrom : PlainNetlist → LatchState → List (List Bool) → List (List Bool) → Type 0
IsNetRunFrom net state [] [] = Unit
IsNetRunFrom net state [] (bits ∷ rest) = ⊥
IsNetRunFrom net state (vector ∷ vectors) [] = ⊥
IsNetRunFrom net state (vector ∷ vectors) (bits ∷ rest) = IsRails net state vector bits × IsNetRunFrom net (next_state net bits) vectors rest

-- the netlist's run by its equations
abbrev pub IsNetRun : PlainNetlist → List (List Bool) → List (List Bool) → Type 0
IsNetRun net vectors run = IsNetRunFrom net (first_state net) vectors run

-- whether a wire is a link, the `q` of a front
abbrev pub is_link : PlainNetlist → ℕ → Bool
is_link net wire = list_any (is_front_to wire) net.cells

-- whether a link is due, by its back's state and next state
abbrev pub link_due : Phase → Bool → Bool → Bool
link_due Excite now next = not now
link_due Relax now next = next

-- Whether a wire is due a pulse in a phase. A link is due in excite where its back's state is 0, and in relax
-- where its back's next state is 1. Any other wire is due in excite where its bit is 1, and in relax where it
-- is 0.
abbrev pub is_due : PlainNetlist → LatchState → List Bool → Phase → ℕ → Bool
is_due net state bits phase wire =
    if is_link net wire then link_due phase (state wire) (next_state net bits wire) else pulses_in phase (bit_at bits wire)
