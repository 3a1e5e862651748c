-- The machine that the units after a header tell, section by section.
use Rattle.std.specs.Prelude.{ℕ, zero, suc, ◌+◌, ◌-◌, ◌/◌, List, [], ◌∷◌, Option, map, take, drop, unwrap_or, if◌then◌else◌}
use Rattle.source_machine.specs.Machines.{PlainLiteral, PlainLatch, PlainEquation, PlainMachine}
use Rattle.source_machine.specs.declared.unset.Unset.{Unset}
use Rattle.aiger_reader.specs.declared.headers.Spelling.{Spelling}
use Rattle.aiger_reader.specs.declared.headers.Spelling.TheVariants.{Ascii, Binary}
use Rattle.aiger_reader.specs.declared.headers.Header.{Header}
use Rattle.aiger_reader.specs.Units.{line_of}
use Rattle.aiger_reader.specs.Numbers.{numbers_of, one_of, three_of}
use Rattle.aiger_reader.specs.LineChecks.{plain_literal, plain_latch, plain_and}
use Rattle.aiger_reader.specs.Deltas.{delta_value}
use Rattle.aiger_reader.specs.Symbols.{begins_comment, name_in}
use Rattle.aiger_reader.specs.Sections.{latches_from, outputs_from, ands_from, sections_end, and_units, latch_at, and_left}

-- so many numbers from one on, rising
abbrev pub numbers_from : ℕ → ℕ → List ℕ
numbers_from first zero = []
numbers_from first (suc count) = first ∷ numbers_from (first + 1) count

-- so many units from a place on
abbrev pub part : ℕ → ℕ → List (List ℕ) → List (List ℕ)
part from count units = take count (drop from units)

-- the variable of an input's line
abbrev pub input_of : List ℕ → ℕ
input_of unit = unwrap_or (one_of (numbers_of (line_of unit))) 0 / 2

-- the inputs: one a line, or in the binary spelling the first variables
abbrev pub inputs_in : Spelling → ℕ → List (List ℕ) → List ℕ
inputs_in Ascii inputs units = map input_of (part 0 inputs units)
inputs_in Binary inputs units = numbers_from 1 inputs

-- the latch of a line that stands after so many units behind the header
abbrev pub latch_in : Unset → Header → ℕ → List ℕ → PlainLatch
latch_in unset header place unit = plain_latch unset (unwrap_or (latch_at header place (line_of unit)) (0, 0, 0))

-- the latches of lines, of which the first stands at this place
abbrev pub latches_in : Unset → Header → ℕ → List (List ℕ) → List PlainLatch
latches_in unset header place [] = []
latches_in unset header place (unit ∷ units) = latch_in unset header place unit ∷ latches_in unset header (place + 1) units

-- the literal of an output's line
abbrev pub output_of : List ℕ → PlainLiteral
output_of unit = plain_literal (unwrap_or (one_of (numbers_of (line_of unit))) 0)

-- the conjunction of a line
abbrev pub and_of : List ℕ → PlainEquation
and_of unit = plain_and (unwrap_or (three_of (numbers_of (line_of unit))) (0, 0, 0))

-- the conjunction of two deltas with this left side
abbrev pub and_by : ℕ → ℕ → ℕ → PlainEquation
and_by left first second = plain_and (left, left - first, left - first - second)

-- the conjunctions of deltas, of which the first two are those of the conjunction with this number
abbrev pub ands_by : Header → ℕ → List (List ℕ) → List PlainEquation
ands_by header gate [] = []
ands_by header gate (first ∷ []) = []
ands_by header gate (first ∷ second ∷ units) =
    and_by (and_left header gate) (delta_value first) (delta_value second) ∷ ands_by header (gate + 1) units

-- the conjunctions of the units of their section
abbrev pub ands_in : Header → Spelling → List (List ℕ) → List PlainEquation
ands_in header Ascii units = map and_of units
ands_in header Binary units = ands_by header 0 units

-- the lines of these units before one that begins a comment
abbrev pub uncommented : List (List ℕ) → List (List ℕ)
uncommented [] = []
uncommented (unit ∷ units) = if begins_comment (line_of unit) then [] else line_of unit ∷ uncommented units

-- the lines of symbols
abbrev pub symbols_in : Header → List (List ℕ) → List (List ℕ)
symbols_in header units = uncommented (drop (sections_end header) units)

-- the names of so many positions of a letter
abbrev pub names_in : ℕ → ℕ → List (List ℕ) → List (Option (List ℕ))
names_in letter count symbols = map (λ place. name_in letter place symbols) (numbers_from 0 count)

-- the machine of the units after a header
abbrev pub machine_in : Unset → Header → List (List ℕ) → PlainMachine
machine_in unset header units = record {
  nets = header.variables;
  inputs = inputs_in header.spelling header.inputs units;
  latches = latches_in unset header (latches_from header) (part (latches_from header) header.latches units);
  equations = ands_in header header.spelling (part (ands_from header) (and_units header.spelling header.ands) units);
  outputs = map output_of (part (outputs_from header) header.outputs units);
  input_names = names_in 105 header.inputs (symbols_in header units);
  output_names = names_in 111 header.outputs (symbols_in header units);
}
