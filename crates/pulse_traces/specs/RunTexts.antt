-- The text of a netlist's run by its rail equations, which no order of deliveries can change.
use Rattle.std.specs.Prelude.{ℕ, ◌+◌, ◌++◌, Bool, List, [], ◌∷◌, map, decimal, if◌then◌else◌}
use Rattle.pulse_ids.specs.Lists.{bit_at}
use Rattle.cell_netlist.specs.declared.kinds.Phase.{Phase}
use Rattle.cell_netlist.specs.declared.kinds.Phase.TheVariants.{Excite, Relax}
use Rattle.cell_netlist.specs.declared.lines.Rail.{Rail}
use Rattle.cell_netlist.specs.Netlists.{PlainNetlist, wire_of}
use Rattle.cell_netlist.specs.Text.{line_of}
use Rattle.cell_netlist.specs.World.{pulses_in}

-- the characters of the output rails in a phase by the bits of their wires: `1` exactly where a wire of this bit pulses
abbrev pub bit_digits : Phase → List Bool → List Rail → List ℕ
bit_digits phase bits rails = map (λ rail. if pulses_in phase (bit_at bits (wire_of rail)) then 49 else 48) rails

-- the line of a cycle: its number, and the characters in excite and in relax
abbrev pub bits_line : List Rail → ℕ → List Bool → List ℕ
bits_line rails number bits = line_of (decimal number ∷ bit_digits Excite bits rails ∷ bit_digits Relax bits rails ∷ [])

-- the lines of a run, numbered from this number on
abbrev pub run_text_from : List Rail → ℕ → List (List Bool) → List ℕ
run_text_from rails number [] = []
run_text_from rails number (bits ∷ run) = bits_line rails number bits ++ run_text_from rails (number + 1) run

abbrev pub run_text : PlainNetlist → List (List Bool) → List ℕ
run_text net run = run_text_from net.output_rails 0 run
