-- What a source says: its verdict, and what its first bytes show already.
use Rattle.std.specs.Prelude.{◌≡◌, ℕ, ◌+◌, ◌++◌, ◌==◌, List, [], ◌∷◌, Option, Some, None, Result, Ok, Err, option_map, unwrap_or, length, take, decimal, nat_lt, if◌then◌else◌}
use Rattle.std.specs.Option.{option_or}
use Rattle.pulse_ids.specs.Quantities.{greatest_of}
use Rattle.pulse_ids.specs.declared.quantities.Quantity.TheVariants as quantities
use Rattle.source_machine.specs.declared.places.Place.{Place}
use Rattle.source_machine.specs.declared.places.Place.TheVariants.{Line, Byte, Whole}
use Rattle.source_machine.specs.Machines.{PlainMachine}
use Rattle.source_machine.specs.Grounding.{IsWellFounded, IsFirstRefusal, driven_twice, undriven, ungrounded}
use Rattle.source_machine.specs.declared.unset.Unset.{Unset}
use Rattle.aiger_reader.specs.declared.headers.Spelling.{Spelling}
use Rattle.aiger_reader.specs.declared.headers.Spelling.TheVariants.{Ascii, Binary}
use Rattle.aiger_reader.specs.declared.headers.Header.{Header}
use Rattle.aiger_reader.specs.declared.refusals.UnitRefusal.{UnitRefusal}
use Rattle.aiger_reader.specs.declared.refusals.UnitRefusal.TheVariants as unit_refusals
use Rattle.aiger_reader.specs.declared.refusals.Shown.{Shown}
use Rattle.aiger_reader.specs.declared.refusals.AigerCause.{AigerCause}
use Rattle.aiger_reader.specs.declared.refusals.AigerCause.TheVariants as causes
use Rattle.aiger_reader.specs.declared.refusals.AigerRefusal.{AigerRefusal}
use Rattle.aiger_reader.specs.declared.refusals.AigerRefusal.TheVariants as refusals
use Rattle.aiger_reader.specs.declared.units.UnitKind.{UnitKind}
use Rattle.aiger_reader.specs.declared.units.UnitKind.TheVariants as kinds
use Rattle.aiger_reader.specs.Units.{units_after, begun_after, without_last}
use Rattle.aiger_reader.specs.Headers.{spelling_of, header_in}
use Rattle.aiger_reader.specs.Sections.{kind_after, unit_refusal, sections_end}
use Rattle.aiger_reader.specs.Machines.{machine_in}

-- the units that stand whole in a text, and the bytes after them
abbrev pub units_of : List ℕ → List (List ℕ)
units_of text = units_after kind_after [] [] text

abbrev pub begun_of : List ℕ → List ℕ
begun_of text = begun_after kind_after [] [] text

-- the bytes of units
abbrev pub bytes_of : List (List ℕ) → ℕ
bytes_of [] = 0
bytes_of (unit ∷ units) = length unit + bytes_of units

-- the place of a unit: the number of its line, or in the binary spelling that of its first byte
abbrev pub place_in : Spelling → ℕ → ℕ → Place
place_in Ascii before start = Line (before + 1)
place_in Binary before start = Byte start

-- the place of a unit that stands after these units
abbrev pub place_after : List (List ℕ) → List ℕ → Place
place_after [] unit = place_in (spelling_of unit) 0 0
place_after (header ∷ units) unit =
    place_in (spelling_of header) (length (header ∷ units)) (bytes_of (header ∷ units))

abbrev pub shown_at : Place → UnitRefusal → Shown
shown_at place refusal = record { place = place; refusal = refusal }

-- the first refusal among units that stand after others
abbrev pub first_refusal : Unset → List (List ℕ) → List (List ℕ) → Option Shown
first_refusal unset before [] = None
first_refusal unset before (unit ∷ units) =
    option_or (option_map (shown_at (place_after before unit)) (unit_refusal unset before unit))
    (first_refusal unset (before ++ unit ∷ []) units)

-- a fault at a place
abbrev pub fault_at : Place → AigerCause → AigerRefusal
fault_at place cause = refusals.Fault (record { place = place; cause = cause })

-- the refusal of a source for that of a unit
abbrev pub refusal_at : Place → UnitRefusal → AigerRefusal
refusal_at place unit_refusals.BadHeader = fault_at place causes.BadHeader
refusal_at place (unit_refusals.Property letter) = fault_at place (causes.Property letter)
refusal_at place unit_refusals.BadLine = fault_at place causes.BadLine
refusal_at place (unit_refusals.OutOfRange literal) = fault_at place (causes.OutOfRange literal)
refusal_at place (unit_refusals.NoFixedInit latch) = fault_at place (causes.NoFixedInit latch)
refusal_at place unit_refusals.BadDelta = fault_at place causes.BadDelta
refusal_at place unit_refusals.SymbolRange = fault_at place causes.SymbolRange
refusal_at place (unit_refusals.Limit quantity) = refusals.Limit quantity

abbrev pub refusal_of : Shown → AigerRefusal
refusal_of shown = refusal_at shown.place shown.refusal

-- the greatest number of bytes
abbrev pub limit : ℕ
limit = greatest_of quantities.SourceBytes

abbrev pub too_long : List ℕ → Option AigerRefusal
too_long text = if nat_lt limit (length text) then Some (refusals.Limit quantities.SourceBytes) else None

-- the first refusal that the whole units of a text show
abbrev pub shown_by : Unset → List ℕ → Option Shown
shown_by unset text = first_refusal unset [] (units_of text)

-- the refusal that the bytes so far show: the first one that a whole unit within the limit shows, or else the
-- limit; none where there are fewer than four bytes
abbrev pub early : Unset → List ℕ → Option AigerRefusal
early unset text =
    if nat_lt (length text) 4 then None
    else option_or (option_map refusal_of (shown_by unset (take limit text))) (too_long text)

-- the unit that the end of the text closes: a line that isn't empty without its CR, and no delta
abbrev pub last_unit : UnitKind → List ℕ → List (List ℕ)
last_unit kinds.Delta begun = []
last_unit kinds.Line begun = if length (without_last 13 begun) == 0 then [] else begun ∷ []

-- the units of a text, where its end closes the last one
abbrev pub all_units : List ℕ → List (List ℕ)
all_units text = units_of text ++ last_unit (kind_after (units_of text)) (begun_of text)

-- the place of what is missing: the number of the first missing line, or the number of bytes
abbrev pub end_place : Spelling → ℕ → ℕ → Place
end_place Ascii units bytes = Line (units + 1)
end_place Binary units bytes = Byte bytes

-- the machine, where no section is cut short
abbrev pub complete : Unset → Option Header → List (List ℕ) → ℕ → Result PlainMachine AigerRefusal
complete unset None units bytes = Err (fault_at (Line 1) causes.BadHeader)
complete unset (Some header) units bytes =
    if nat_lt (length units) (sections_end header)
    then Err (fault_at (end_place header.spelling (length units + 1) bytes) causes.Truncated)
    else Ok (machine_in unset header units)

-- the same of all units of a text of so many bytes, none of which is refused; no unit is no header
abbrev pub whole_source : Unset → List (List ℕ) → ℕ → Result PlainMachine AigerRefusal
whole_source unset [] bytes = Err (fault_at (Line 1) causes.BadHeader)
whole_source unset (header ∷ units) bytes = complete unset (header_in header) units bytes

abbrev pub unless_shown : Option Shown → Result PlainMachine AigerRefusal → Result PlainMachine AigerRefusal
unless_shown None others = others
unless_shown (Some shown) others = Err (refusal_of shown)

-- the judgement of a text, but for the faults of a machine: the first refusal of a unit, else the first fault of
-- the whole, else the machine; of a text above the limit what its first bytes show
abbrev pub judgement : Unset → List ℕ → Result PlainMachine AigerRefusal
judgement unset text =
    if nat_lt limit (length text) then Err (unwrap_or (early unset text) (refusals.Limit quantities.SourceBytes))
    else unless_shown (first_refusal unset [] (all_units text)) (whole_source unset (all_units text) (length text))

-- the cause is the machine's first refusal, and names the net
abbrev pub IsMachineCause : PlainMachine → AigerCause → Type 0
IsMachineCause machine (causes.DoubleDriver name) = (net : ℕ) × (name ≡ decimal net) × IsFirstRefusal machine (driven_twice net)
IsMachineCause machine (causes.Undriven name) = (net : ℕ) × (name ≡ decimal net) × IsFirstRefusal machine (undriven net)
IsMachineCause machine (causes.Cycle name) = (net : ℕ) × (name ≡ decimal net) × IsFirstRefusal machine (ungrounded net)
IsMachineCause machine _ = ⊥

abbrev pub IsMachineRefusal : PlainMachine → AigerRefusal → Type 0
IsMachineRefusal machine (refusals.Fault fault) = (fault.place ≡ Whole) × IsMachineCause machine fault.cause
IsMachineRefusal machine _ = ⊥

-- an answer is the verdict of a judgement: its refusal, or the machine where that is well founded, or the
-- machine's first refusal
abbrev pub IsVerdictOf : Result PlainMachine AigerRefusal → Result PlainMachine AigerRefusal → Type 0
IsVerdictOf (Ok machine) (Ok read) = (read ≡ machine) × IsWellFounded machine
IsVerdictOf (Ok machine) (Err refusal) = IsMachineRefusal machine refusal
IsVerdictOf (Err refusal) (Ok read) = ⊥
IsVerdictOf (Err refusal) (Err other) = other ≡ refusal
