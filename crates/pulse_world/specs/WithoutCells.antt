-- The laws of every order for netlists without cells, whose output rails stand on the wires of input rails.
use Rattle.std.specs.Prelude.{◌≡◌, ℕ, Bool, Some, List, [], slice_get}
use Rattle.cell_netlist.specs.declared.lines.Rail.{Rail}
use Rattle.pulse_ids.specs.Lists.{IsIn, bit_at}
use Rattle.cell_netlist.specs.Netlists.{PlainNetlist, wire_of}
use Rattle.cell_netlist.specs.World.{has_sign}
use Rattle.cell_netlist.specs.RailEquations.{IsNetRun}
use Rattle.cell_netlist.specs.Sound.{IsSound}
use Rattle.pulse_world.specs.Delivery.{Delivers, DeliversRails}

-- a sound netlist without cells pulses as its rail equations say
abbrev pub OrderLawWithoutCells : Type 0
OrderLawWithoutCells =
    (net : PlainNetlist) → IsSound net → net.cells ≡ [] → (vectors run : List (List Bool)) → IsNetRun net vectors run
    → DeliversRails net vectors run

-- a sound netlist without cells has a run by its equations on any vectors
abbrev pub RunExistsWithoutCells : Type 0
RunExistsWithoutCells =
    (net : PlainNetlist) → IsSound net → net.cells ≡ [] → (vectors : List (List Bool))
    → (run : List (List Bool)) × IsNetRun net vectors run

-- an input rail on the wire of an output rail, which a vector gives a bit with the sign
pub record InputCarries (net : PlainNetlist) (vector : List Bool) (output : Rail) (bit : Bool) : Type 0 where
  pub input : Rail
  pub among : IsIn input net.input_rails
  pub wire : wire_of input ≡ wire_of output
  pub carries : has_sign (bit_at vector input.port) input.sign ≡ has_sign bit output.sign

-- in the cycle of each vector, an input rail gives each output rail the bit of its port
abbrev pub InputsCarry : PlainNetlist → List (List Bool) → (ℕ → ℕ → Bool) → Type 0
InputsCarry net vectors bit =
    (cycle : ℕ) (vector : List Bool) → slice_get vectors cycle ≡ Some vector → (output : Rail) → IsIn output net.output_rails
    → InputCarries net vector output (bit cycle output.port)

-- a sound netlist without cells delivers the bits that its input rails give its output rails
abbrev pub BitLawWithoutCells : Type 0
BitLawWithoutCells =
    (net : PlainNetlist) → IsSound net → net.cells ≡ [] → (vectors : List (List Bool)) (bit : ℕ → ℕ → Bool)
    → InputsCarry net vectors bit → Delivers net vectors bit
