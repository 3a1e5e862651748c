-- The laws of every order: a sound netlist pulses as its rail equations say.
use Rattle.std.specs.Prelude.{ℕ, Bool, List}
use Rattle.cell_netlist.specs.Netlists.{PlainNetlist}
use Rattle.cell_netlist.specs.RailEquations.{IsNetRun}
use Rattle.cell_netlist.specs.NetRuns.{OutputsCarry}
use Rattle.cell_netlist.specs.Sound.{IsSound}
use Rattle.pulse_world.specs.Delivery.{Delivers, DeliversRails}
use Rattle.pulse_world.specs.DuePulses.{FollowsRails}

-- a netlist delivers the bits that its wires carry at the output rails
abbrev pub RailsToBits : Type 0
RailsToBits =
    (net : PlainNetlist) (vectors run : List (List Bool)) (bit : ℕ → ℕ → Bool) → DeliversRails net vectors run
    → OutputsCarry net vectors run bit → Delivers net vectors bit

-- a sound netlist pulses as its rail equations say
abbrev pub OrderLaw : Type 0
OrderLaw =
    (net : PlainNetlist) → IsSound net → (vectors run : List (List Bool)) → IsNetRun net vectors run → DeliversRails net vectors run

-- a sound netlist delivers the bits that a run by its equations gives at the output rails
abbrev pub BitLaw : Type 0
BitLaw =
    (net : PlainNetlist) → IsSound net → (vectors run : List (List Bool)) (bit : ℕ → ℕ → Bool) → IsNetRun net vectors run
    → OutputsCarry net vectors run bit → Delivers net vectors bit

-- the pulses of a sound netlist follow each run of its rail equations
abbrev pub FollowLaw : Type 0
FollowLaw =
    (net : PlainNetlist) → IsSound net → (vectors run : List (List Bool)) → IsNetRun net vectors run → FollowsRails net vectors run
