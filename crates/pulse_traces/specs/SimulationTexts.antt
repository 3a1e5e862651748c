-- The text of a simulation: for each cycle its deliveries, where they are asked for, and which output rails pulsed.
use Rattle.std.specs.Prelude.{ℕ, ◌+◌, ◌++◌, Bool, true, false, List, [], ◌∷◌, map, codes, decimal, nat_lt, if◌then◌else◌}
use Rattle.pulse_ids.specs.Lists.{occurrences}
use Rattle.cell_netlist.specs.declared.lines.Rail.{Rail}
use Rattle.cell_netlist.specs.Netlists.{PlainNetlist, wire_of}
use Rattle.cell_netlist.specs.Text.{line_of}
use Rattle.schedule_replay.specs.Orders.{Cycle}

-- how often each output rail pulsed in a phase that delivered these wires
abbrev pub counts_in : List Rail → List ℕ → List ℕ
counts_in rails wires = map (λ rail. occurrences (wire_of rail) wires) rails

-- the character of an output rail that pulsed so often: `1` exactly where it pulsed
abbrev pub digit_of : ℕ → ℕ
digit_of count = if nat_lt 0 count then 49 else 48

-- the characters of the output rails for a phase that delivered these wires
abbrev pub digits_in : List Rail → List ℕ → List ℕ
digits_in rails wires = map digit_of (counts_in rails wires)

-- `deliver`, and the wire of each delivery
abbrev pub deliver_line : List ℕ → List ℕ
deliver_line wires = line_of (codes "deliver" ∷ map decimal wires)

-- the deliveries of two phases, where they are asked for
abbrev pub trace_text : Bool → List ℕ → List ℕ → List ℕ
trace_text false excite relax = []
trace_text true excite relax = deliver_line excite ++ deliver_line relax

-- the number of a cycle, and which output rails pulsed in its excite and in its relax
abbrev pub pulses_line : List Rail → ℕ → Cycle → List ℕ
pulses_line rails number cycle = line_of (decimal number ∷ digits_in rails cycle.excite ∷ digits_in rails cycle.relax ∷ [])

abbrev pub cycle_text : Bool → List Rail → ℕ → Cycle → List ℕ
cycle_text trace rails number cycle = trace_text trace cycle.excite cycle.relax ++ pulses_line rails number cycle

-- the text of cycles that are numbered from this number on
abbrev pub text_from : Bool → List Rail → ℕ → List Cycle → List ℕ
text_from trace rails number [] = []
text_from trace rails number (cycle ∷ cycles) = cycle_text trace rails number cycle ++ text_from trace rails (number + 1) cycles

-- the text of all cycles of a simulation, with or without their deliveries
abbrev pub simulation_text : Bool → PlainNetlist → List Cycle → List ℕ
simulation_text trace net cycles = text_from trace net.output_rails 0 cycles
