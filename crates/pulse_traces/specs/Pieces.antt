-- The text of a cycle by the parts that are written.
use Rattle.std.specs.Prelude.{ℕ, ◌++◌, Bool, List, [], ◌∷◌, decimal}
use Rattle.pulse_ids.specs.Ids.{WireId}
use Rattle.cell_netlist.specs.Text.{line_of}
use Rattle.pulse_traces.specs.SimulationTexts.{trace_text}

-- a space and the number of a wire
abbrev pub spaced_wire : WireId → List ℕ
spaced_wire wire = 32 ∷ decimal wire.number

-- the text of a cycle of this number with these deliveries and characters of its phases
abbrev pub cycle_of_parts : Bool → ℕ → List ℕ → List ℕ → List ℕ → List ℕ → List ℕ
cycle_of_parts trace number excite relax excite_digits relax_digits =
    trace_text trace excite relax ++ line_of (decimal number ∷ excite_digits ∷ relax_digits ∷ [])
