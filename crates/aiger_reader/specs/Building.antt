-- What a reader keeps of the units so far, and how each unit changes it.
use Rattle.std.specs.Prelude.{◌≡◌, ⊤, ℕ, zero, suc, ◌+◌, ◌-◌, ◌==◌, Bool, true, false, List, Option, Some, None, Result, Ok, Err, length, if◌then◌else◌}
use Rattle.source_machine.specs.Machines.{PlainMachine}
use Rattle.source_machine.specs.Additions.{bare, with_input, with_latch, with_equation, with_output}
use Rattle.source_machine.specs.declared.unset.Unset.{Unset}
use Rattle.aiger_reader.specs.declared.headers.Spelling.{Spelling}
use Rattle.aiger_reader.specs.declared.headers.Spelling.TheVariants.{Ascii, Binary}
use Rattle.aiger_reader.specs.declared.headers.Header.{Header}
use Rattle.aiger_reader.specs.declared.refusals.UnitRefusal.{UnitRefusal}
use Rattle.aiger_reader.specs.declared.refusals.UnitRefusal.TheVariants.{BadHeader}
use Rattle.aiger_reader.specs.declared.refusals.Shown.{Shown}
use Rattle.aiger_reader.specs.declared.refusals.Refused.{Refused}
use Rattle.aiger_reader.specs.declared.refusals.Refused.TheVariants as refused
use Rattle.aiger_reader.specs.declared.sections.Section.{Section}
use Rattle.aiger_reader.specs.declared.sections.Section.TheVariants.{Inputs, Latches, Outputs, Ands, FirstDeltas, SecondDeltas, Behind}
use Rattle.aiger_reader.specs.Units.{line_of}
use Rattle.aiger_reader.specs.Headers.{spelling_of, header_in, counts_refusal}
use Rattle.aiger_reader.specs.LineChecks.{plain_and}
use Rattle.aiger_reader.specs.Deltas.{delta_value}
use Rattle.aiger_reader.specs.Symbols.{begins_comment, symbol_in, named_by}
use Rattle.aiger_reader.specs.Sections.{section_of, section_refusal, sections_end, delta_left}
use Rattle.aiger_reader.specs.Machines.{input_of, latch_in, output_of, and_of}
use Rattle.aiger_reader.specs.Sources.{place_in, shown_at, units_of}
use Rattle.word_scan.specs.Reading.{read_on}
use Rattle.source_machine.specs.declared.places.Place.{Place}
use Rattle.aiger_reader.specs.declared.refusals.Stop.{Stop}
use Rattle.aiger_reader.specs.declared.refusals.Stop.TheVariants as stops

-- the header, the number of units after it, the place of the next byte that begins a unit, the first literal of a
-- conjunction whose second delta is due, whether a comment has begun, and the machine so far
pub record PlainBuilt : Type 0 where
  pub header : Option Header
  pub place : ℕ
  pub start : ℕ
  pub literal : ℕ
  pub commented : Bool
  pub machine : PlainMachine

-- nothing was read
abbrev pub nothing_built : PlainBuilt
nothing_built = record { header = None; place = 0; start = 0; literal = 0; commented = false; machine = bare 0 }

-- the names that a line behind the sections gives
abbrev pub with_symbol : PlainMachine → Option (ℕ × ℕ × List ℕ) → PlainMachine
with_symbol machine symbol = record machine {
  input_names = named_by 105 symbol machine.input_names;
  output_names = named_by 111 symbol machine.output_names;
}

abbrev pub behind_added : PlainBuilt → List ℕ → PlainBuilt
behind_added built line =
    if built.commented then built else
    (if begins_comment line then record built { commented = true }
    else record built { machine = with_symbol built.machine (symbol_in line) })

-- a unit of each section adds what it says
abbrev pub unit_added : Unset → Header → PlainBuilt → List ℕ → Section → PlainBuilt
unit_added unset header built unit Inputs = record built { machine = with_input built.machine (input_of unit) None }
unit_added unset header built unit Latches = record built { machine = with_latch built.machine (latch_in unset header built.place unit) }
unit_added unset header built unit Outputs = record built { machine = with_output built.machine (output_of unit) None }
unit_added unset header built unit Ands = record built { machine = with_equation built.machine (and_of unit) }
unit_added unset header built unit FirstDeltas = record built { literal = delta_left header built.place - delta_value unit }
unit_added unset header built unit SecondDeltas =
    record built { machine = with_equation built.machine (plain_and (delta_left header built.place, built.literal, built.literal - delta_value unit)) }
unit_added unset header built unit Behind = behind_added built (line_of unit)

-- a machine with so many further inputs, on the nets from one on
abbrev pub with_inputs : PlainMachine → ℕ → ℕ → PlainMachine
with_inputs machine net zero = machine
with_inputs machine net (suc count) = with_inputs (with_input machine net None) (net + 1) count

-- where the sections of the binary spelling end, the inputs come, which have no lines
abbrev pub is_complete : Header → ℕ → Bool
is_complete header place = place == sections_end header

abbrev pub completed_in : Spelling → Header → PlainBuilt → PlainBuilt
completed_in Ascii header built = built
completed_in Binary header built =
    if is_complete header built.place then record built { machine = with_inputs built.machine 1 header.inputs } else built

abbrev pub completed : Header → PlainBuilt → PlainBuilt
completed header built = completed_in header.spelling header built

-- one more unit was read
abbrev pub counted : PlainBuilt → List ℕ → PlainBuilt
counted built unit = record built { place = built.place + 1; start = built.start + length unit }

-- where nothing is refused
abbrev pub unless : Option UnitRefusal → PlainBuilt → Result PlainBuilt UnitRefusal
unless None built = Ok built
unless (Some refusal) built = Err refusal

-- the refusal of the next unit, where it stands in this section
abbrev pub refusal_in : Unset → Header → PlainBuilt → List ℕ → Section → Option UnitRefusal
refusal_in unset header built unit section =
    section_refusal unset header built.place built.commented built.literal unit section

-- a unit after the header is read
abbrev pub body_read : Unset → Header → PlainBuilt → List ℕ → Section → Result PlainBuilt UnitRefusal
body_read unset header built unit section =
    unless (refusal_in unset header built unit section)
    (completed header (counted (unit_added unset header built unit section) unit))

-- before the units of the sections
abbrev pub begun_with : Header → ℕ → PlainBuilt
begun_with header start =
    completed header (record { header = Some header; place = 0; start = start; literal = 0; commented = false; machine = bare header.variables })

-- a header is read
abbrev pub header_read : Option Header → List ℕ → Result PlainBuilt UnitRefusal
header_read None unit = Err BadHeader
header_read (Some header) unit = unless (counts_refusal header) (begun_with header (length unit))

-- a unit is read, where it isn't refused
abbrev pub unit_read_by : Unset → Option Header → PlainBuilt → List ℕ → Result PlainBuilt UnitRefusal
unit_read_by unset None built unit = header_read (header_in unit) unit
unit_read_by unset (Some header) built unit = body_read unset header built unit (section_of header built.place)

abbrev pub unit_read : Unset → PlainBuilt → List ℕ → Result PlainBuilt UnitRefusal
unit_read unset built unit = unit_read_by unset built.header built unit

-- a refusal is this one, or want of memory
abbrev pub Refuses : Refused → Option UnitRefusal → Type 0
Refuses (refused.Unit refusal) judged = judged ≡ Some refusal
Refuses refused.NoMemory judged = ⊤

-- what reading a unit gives is this refusal, or memory was refused
abbrev pub ReadsAs : Refused → Result PlainBuilt UnitRefusal → Type 0
ReadsAs (refused.Unit refusal) read = read ≡ Err refusal
ReadsAs refused.NoMemory read = ⊤

-- the place of the next unit
abbrev pub place_by : Option Header → PlainBuilt → List ℕ → Place
place_by None built unit = place_in (spelling_of unit) 0 0
place_by (Some header) built unit = place_in header.spelling (built.place + 1) built.start

abbrev pub place_of : PlainBuilt → List ℕ → Place
place_of built unit = place_by built.header built unit

abbrev pub shown_as : Place → Result PlainBuilt UnitRefusal → Result PlainBuilt Shown
shown_as place (Ok built) = Ok built
shown_as place (Err refusal) = Err (shown_at place refusal)

-- a unit is read, where it isn't refused; a refusal with its place
abbrev pub shown_read : Unset → PlainBuilt → List ℕ → Result PlainBuilt Shown
shown_read unset built unit = shown_as (place_of built unit) (unit_read unset built unit)

-- the units of a text, read one after the other
abbrev pub text_read : Unset → List ℕ → Result PlainBuilt Shown
text_read unset text = read_on (shown_read unset) (Ok nothing_built) (units_of text)

-- reading stops for this refusal, or for want of memory
abbrev pub StopsFor : Stop → Result PlainBuilt Shown → Type 0
StopsFor (stops.Unit shown) read = read ≡ Err shown
StopsFor stops.TooLong read = ⊥
StopsFor stops.NoMemory read = ⊤

-- behind the sections each port has its place among the names
abbrev pub HasNames : Header → PlainBuilt → Type 0
HasNames header built =
    section_of header built.place ≡ Behind → (length built.machine.input_names ≡ header.inputs) × (length built.machine.output_names ≡ header.outputs)
