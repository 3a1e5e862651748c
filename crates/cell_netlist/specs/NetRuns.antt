-- Runs of a netlist by its equations: the bits and the states of their cycles, and the laws on them.
use Rattle.std.specs.Prelude.{◌≡◌, ◌<◌, false, ℕ, zero, suc, Bool, Some, List, [], slice_get, unwrap_or}
use Rattle.cell_netlist.specs.declared.lines.Rail.{Rail}
use Rattle.pulse_ids.specs.Lists.{IsIn, bit_at}
use Rattle.cell_netlist.specs.Netlists.{PlainNetlist, wire_of, number_of_wires}
use Rattle.cell_netlist.specs.World.{has_sign}
use Rattle.cell_netlist.specs.RailEquations.{LatchState, first_state, next_state, IsRails, IsNetRun, is_link}
use Rattle.cell_netlist.specs.Sound.{IsSound}

-- the list of bits of a cycle, of a run or of vectors, and no bits past the end
abbrev pub bits_in : List (List Bool) → ℕ → List Bool
bits_in lists cycle = unwrap_or (slice_get lists cycle) []

-- the state of the latches in a cycle of a run that starts in a state
abbrev pub latches_from : PlainNetlist → LatchState → List (List Bool) → ℕ → LatchState
latches_from net state run zero = state
latches_from net state run (suc cycle) = next_state net (bits_in run cycle)

-- in the cycle of each vector, the wire of each output rail has the bit of the rail's port with the rail's sign
abbrev pub OutputsCarry : PlainNetlist → List (List Bool) → List (List Bool) → (ℕ → ℕ → Bool) → Type 0
OutputsCarry net vectors run bit =
    (cycle : ℕ) (vector : List Bool) → slice_get vectors cycle ≡ Some vector → (rail : Rail) → IsIn rail net.output_rails
    → bit_at (bits_in run cycle) (wire_of rail) ≡ has_sign (bit cycle rail.port) rail.sign

-- a sound netlist has a run by its equations on any vectors
abbrev pub RunExists : Type 0
RunExists = (net : PlainNetlist) → IsSound net → (vectors : List (List Bool)) → (run : List (List Bool)) × IsNetRun net vectors run

-- in the cycle of each vector, the bits of a run meet the equations for the state of that cycle
abbrev pub RunRails : Type 0
RunRails =
    (net : PlainNetlist) (vectors run : List (List Bool)) → IsNetRun net vectors run → (cycle : ℕ) (vector : List Bool)
    → slice_get vectors cycle ≡ Some vector → IsRails net (latches_from net (first_state net) run cycle) vector (bits_in run cycle)

-- two runs by the equations of a sound netlist have the same bits, but for the links, which have no equation
abbrev pub RunsAgree : Type 0
RunsAgree =
    (net : PlainNetlist) → IsSound net → (vectors one other : List (List Bool)) → IsNetRun net vectors one → IsNetRun net vectors other
    → (cycle wire : ℕ) → wire < number_of_wires net → is_link net wire ≡ false
    → bit_at (bits_in one cycle) wire ≡ bit_at (bits_in other cycle) wire
