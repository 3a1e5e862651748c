-- Small netlists.
use Rattle.std.specs.Prelude.{ℕ, Bool, true, false, Option, Some, None, List, [], ◌∷◌}
use Rattle.pulse_ids.specs.Ids.{WireId, numbered}
use Rattle.pulse_ids.specs.declared.literals.Sign.{Sign}
use Rattle.pulse_ids.specs.declared.literals.Sign.TheVariants.{Pos, Neg}
use Rattle.cell_netlist.specs.declared.kinds.Role.{Role}
use Rattle.cell_netlist.specs.declared.kinds.Role.TheVariants.{Front, Back, Const}
use Rattle.cell_netlist.specs.declared.lines.Rail.{Rail}
use Rattle.cell_netlist.specs.declared.lines.StateLine.{StateLine}
use Rattle.cell_netlist.specs.declared.lines.Cell.{Cell}
use Rattle.cell_netlist.specs.declared.lines.Cell.TheVariants as cells
use Rattle.cell_netlist.specs.Netlists.{PlainNetlist, netlist_of}

-- a rail of a port on a wire
abbrev pub rail : ℕ → Sign → ℕ → Rail
rail port sign wire = record { port = port; sign = sign; wire = numbered wire }

-- an LA of two wires and its output
abbrev pub la : ℕ → ℕ → ℕ → Cell
la a b out = cells.La (numbered a) (numbered b) (numbered out)

-- an FA of two wires and its output
abbrev pub fa : ℕ → ℕ → ℕ → Cell
fa a b out = cells.Fa (numbered a) (numbered b) (numbered out)

-- a splitter of a wire and its outputs
abbrev pub split : ℕ → ℕ → ℕ → Cell
split from left right = cells.Split (numbered from) (numbered left) (numbered right)

-- an output on a wire
abbrev pub on : ℕ → Option WireId
on wire = Some (numbered wire)

-- an output that is on no wire
abbrev pub unused : Option WireId
unused = None

-- a DROC with its feed and its outputs
abbrev pub droc : Role → Bool → ℕ → Option WireId → Option WireId → Cell
droc role preload feed q n = cells.Droc role preload (numbered feed) q n

-- a state line of a latch and its cell
abbrev pub state : ℕ → ℕ → StateLine
state latch cell = record { latch = latch; cell = numbered cell }

-- a netlist with no names
abbrev pub plain : ℕ → ℕ → List Rail → List Cell → List Rail → PlainNetlist
plain inputs outputs input_rails cells output_rails = netlist_of inputs outputs input_rails cells output_rails [] []

-- A toggle flip-flop: its state is shown by output 0, and its complement, which is the next state, by output 1.
abbrev pub toggle : PlainNetlist
toggle = plain 0 2 []
    (droc Back false 4 (on 0) (on 1) ∷ split 1 2 3 ∷ droc Front true 2 (on 4) unused ∷ [])
    (rail 0 Pos 0 ∷ rail 1 Pos 3 ∷ [])

-- A half adder: output 0 is the sum, and output 1 the carry.
abbrev pub half_adder : PlainNetlist
half_adder = plain 2 2
    (rail 0 Pos 0 ∷ rail 0 Neg 1 ∷ rail 1 Pos 2 ∷ rail 1 Neg 3 ∷ [])
    (split 0 4 5 ∷ split 2 6 7 ∷ la 4 6 8 ∷ fa 1 3 9 ∷ fa 5 7 10 ∷ la 9 10 11 ∷ [])
    (rail 0 Pos 11 ∷ rail 1 Pos 8 ∷ [])

-- A constant 1 on output 0: its `q` pulses in excite only, and its `n`, which feeds it, in relax only.
abbrev pub constant_one : PlainNetlist
constant_one = plain 0 1 [] (droc Const true 1 (on 0) (on 1) ∷ []) (rail 0 Pos 0 ∷ [])

-- two positive rails on the wires 0 and 1
abbrev pub two_rails : List Rail
two_rails = rail 0 Pos 0 ∷ rail 1 Pos 1 ∷ []

-- an LA that reads its own output, and so never emits
abbrev pub looped : PlainNetlist
looped = plain 1 1 (rail 0 Pos 0 ∷ []) (split 0 2 3 ∷ la 2 1 1 ∷ []) (rail 0 Pos 3 ∷ [])
