-- The sections of a source, and the refusal of each unit. (AIGER 1.9, sections 2 and 3.)
use Rattle.std.specs.Prelude.{ℕ, ◌+◌, ◌-◌, ◌*◌, ◌/◌, ◌%◌, ◌==◌, Bool, true, false, List, [], ◌∷◌, Option, Some, None, option_map, drop, length, slice_index_or, nat_lt, if◌then◌else◌}
use Rattle.source_machine.specs.declared.unset.Unset.{Unset}
use Rattle.aiger_reader.specs.declared.headers.Spelling.{Spelling}
use Rattle.aiger_reader.specs.declared.headers.Spelling.TheVariants.{Ascii, Binary}
use Rattle.aiger_reader.specs.declared.headers.Header.{Header}
use Rattle.aiger_reader.specs.declared.refusals.UnitRefusal.{UnitRefusal}
use Rattle.aiger_reader.specs.declared.sections.Section.{Section}
use Rattle.aiger_reader.specs.declared.sections.Section.TheVariants.{Inputs, Latches, Outputs, Ands, FirstDeltas, SecondDeltas, Behind}
use Rattle.aiger_reader.specs.declared.units.UnitKind.{UnitKind}
use Rattle.aiger_reader.specs.declared.units.UnitKind.TheVariants.{Line, Delta}
use Rattle.aiger_reader.specs.Units.{line_of}
use Rattle.aiger_reader.specs.Numbers.{numbers_of, one_of, one_or_two_of, two_or_three_of, three_of}
use Rattle.aiger_reader.specs.Headers.{header_in, header_refusal}
use Rattle.aiger_reader.specs.LineChecks.{input_refusal, latch_refusal, output_refusal, and_refusal}
use Rattle.aiger_reader.specs.Deltas.{delta_of, delta_value, first_delta_refusal, second_delta_refusal}
use Rattle.aiger_reader.specs.Symbols.{begins_comment, line_refusal}

-- how many lines the inputs have: none in the binary spelling
abbrev pub input_lines : Spelling → ℕ → ℕ
input_lines Ascii inputs = inputs
input_lines Binary inputs = 0

-- how many units the conjunctions have: a line each, or two deltas
abbrev pub and_units : Spelling → ℕ → ℕ
and_units Ascii ands = ands
and_units Binary ands = 2 * ands

-- where a section begins, counted from the unit after the header, and where the last one ends
abbrev pub latches_from : Header → ℕ
latches_from header = input_lines header.spelling header.inputs

abbrev pub outputs_from : Header → ℕ
outputs_from header = latches_from header + header.latches

abbrev pub ands_from : Header → ℕ
ands_from header = outputs_from header + header.outputs

abbrev pub sections_end : Header → ℕ
sections_end header = ands_from header + and_units header.spelling header.ands

-- a conjunction's unit, by the number of units of conjunctions before it
abbrev pub and_section : Spelling → ℕ → Section
and_section Ascii before = Ands
and_section Binary before = if before % 2 == 0 then FirstDeltas else SecondDeltas

-- the section of the unit that stands after so many units behind the header
abbrev pub section_of : Header → ℕ → Section
section_of header place =
    if nat_lt place (latches_from header) then Inputs else
    (if nat_lt place (outputs_from header) then Latches else
    (if nat_lt place (ands_from header) then Outputs else
    (if nat_lt place (sections_end header) then and_section header.spelling (place - ands_from header) else Behind)))

-- the kind of a section's units
abbrev pub kind_of : Section → UnitKind
kind_of Inputs = Line
kind_of Latches = Line
kind_of Outputs = Line
kind_of Ands = Line
kind_of FirstDeltas = Delta
kind_of SecondDeltas = Delta
kind_of Behind = Line

abbrev pub kind_at : Option Header → ℕ → UnitKind
kind_at None place = Line
kind_at (Some header) place = kind_of (section_of header place)

-- the kind of the unit after these units
abbrev pub kind_after : List (List ℕ) → UnitKind
kind_after [] = Line
kind_after (header ∷ units) = kind_at (header_in header) (length units)

-- what the line of a latch says: its left side, which the binary spelling leaves out, its next literal and its reset
abbrev pub latch_said : Spelling → ℕ → Option (List ℕ) → Option (ℕ × ℕ × ℕ)
latch_said Ascii left numbers = two_or_three_of numbers
latch_said Binary left numbers = option_map (λ said. (left, said.0, said.1)) (one_or_two_of numbers)

-- the left side of a latch and of a conjunction of the binary spelling, whose variables follow those before
abbrev pub latch_left : Header → ℕ → ℕ
latch_left header latch = 2 * (header.inputs + latch + 1)

abbrev pub and_left : Header → ℕ → ℕ
and_left header gate = 2 * (header.inputs + header.latches + gate + 1)

-- the latch of a line, the number of the conjunction of a delta, by the units before them
abbrev pub latch_at : Header → ℕ → List ℕ → Option (ℕ × ℕ × ℕ)
latch_at header place line =
    latch_said header.spelling (latch_left header (place - latches_from header)) (numbers_of line)

abbrev pub delta_left : Header → ℕ → ℕ
delta_left header place = and_left header ((place - ands_from header) / 2)

-- the refusal of a unit of a section. `place` is the number of units between the header and it, `commented` tells
-- whether a comment has begun, and `literal` is the conjunction's first literal, to which the second delta refers.
abbrev pub section_refusal : Unset → Header → ℕ → Bool → ℕ → List ℕ → Section → Option UnitRefusal
section_refusal unset header place commented literal unit Inputs = input_refusal header.variables (one_of (numbers_of (line_of unit)))
section_refusal unset header place commented literal unit Latches =
    latch_refusal unset header.variables (place - latches_from header) (latch_at header place (line_of unit))
section_refusal unset header place commented literal unit Outputs = output_refusal header.variables (one_of (numbers_of (line_of unit)))
section_refusal unset header place commented literal unit Ands = and_refusal header.variables (three_of (numbers_of (line_of unit)))
section_refusal unset header place commented literal unit FirstDeltas = first_delta_refusal (delta_left header place) (delta_of unit)
section_refusal unset header place commented literal unit SecondDeltas = second_delta_refusal literal (delta_of unit)
section_refusal unset header place commented literal unit Behind = line_refusal header commented (line_of unit)

-- whether a line of these begins a comment
abbrev pub any_comment : List (List ℕ) → Bool
any_comment [] = false
any_comment (unit ∷ units) = if begins_comment (line_of unit) then true else any_comment units

-- whether a comment has begun in these units after the header
abbrev pub is_commented : Header → List (List ℕ) → Bool
is_commented header units = any_comment (drop (sections_end header) units)

-- the last of these units
abbrev pub last_of : List (List ℕ) → List ℕ
last_of units = slice_index_or units (length units - 1) []

-- the first literal of the conjunction whose first delta is the last of these units
abbrev pub literal_after : Header → List (List ℕ) → ℕ
literal_after header units = delta_left header (length units - 1) - delta_value (last_of units)

-- the refusal of a unit that stands after these ones behind a header
abbrev pub body_refusal : Unset → Option Header → List (List ℕ) → List ℕ → Option UnitRefusal
body_refusal unset None units unit = None
body_refusal unset (Some header) units unit =
    section_refusal unset header (length units) (is_commented header units) (literal_after header units) unit (section_of header (length units))

-- the refusal of a unit that stands after these units
abbrev pub unit_refusal : Unset → List (List ℕ) → List ℕ → Option UnitRefusal
unit_refusal unset [] unit = header_refusal (header_in unit)
unit_refusal unset (header ∷ units) unit = body_refusal unset (header_in header) units unit
