-- What a source says: its verdict, and what its first bytes show already.
use Rattle.std.specs.Prelude.{◌≡◌, ◌≤◌, ⊤, ℕ, ◌-◌, ◌++◌, ◌==◌, Bool, false, not, ◌||◌, List, [], ◌∷◌, Option, Some, None, Result, Ok, Err, unwrap_or, length, take, slice_get, nat_lt, if◌then◌else◌}
use Rattle.std.specs.Option.{option_or}
use Rattle.std.specs.List.{list_any}
use Rattle.pulse_ids.specs.Quantities.{greatest_of}
use Rattle.pulse_ids.specs.declared.quantities.Quantity.TheVariants as quantities
use Rattle.numbered_names.specs.Names.{number_in}
use Rattle.word_scan.specs.Lines.{whole_lines, last_line}
use Rattle.word_scan.specs.Logical.{LogicalLine, logical_after, logical_begun}
use Rattle.source_machine.specs.declared.places.Place.{Place}
use Rattle.source_machine.specs.declared.places.Place.TheVariants.{Line, Whole}
use Rattle.source_machine.specs.declared.unset.Unset.{Unset}
use Rattle.source_machine.specs.Machines.{PlainMachine, PlainEquation, PlainLiteral}
use Rattle.source_machine.specs.Additions.{with_nets}
use Rattle.source_machine.specs.declared.grounding.Grounding.{Grounding}
use Rattle.source_machine.specs.declared.grounding.Grounding.TheVariants.{DoubleDriver, Undriven, Cycle, NoMemory}
use Rattle.source_machine.specs.Grounding.{IsWellFounded, IsFirstRefusal, driven_twice, undriven, ungrounded}
use Rattle.blif_reader.specs.declared.refusals.BlifCause.{BlifCause}
use Rattle.blif_reader.specs.declared.refusals.BlifCause.TheVariants as causes
use Rattle.blif_reader.specs.declared.refusals.BlifRefusal.{BlifRefusal}
use Rattle.blif_reader.specs.declared.refusals.BlifRefusal.TheVariants as refusals
use Rattle.blif_reader.specs.declared.refusals.LineRefusal.{LineRefusal}
use Rattle.blif_reader.specs.declared.refusals.LineRefusal.TheVariants as line_refusals
use Rattle.blif_reader.specs.States.{BlifState, nothing_read, closed}
use Rattle.blif_reader.specs.Statements.{text_line_read}

-- the logical lines that stand whole in a text
abbrev pub logical_lines : List ℕ → List LogicalLine
logical_lines text = logical_after None 1 (whole_lines text)

-- the physical lines of a text, where its end closes the last one
abbrev pub line_begun : List ℕ → List (List ℕ)
line_begun [] = []
line_begun (byte ∷ bytes) = (byte ∷ bytes) ∷ []

abbrev pub all_lines : List ℕ → List (List ℕ)
all_lines text = whole_lines text ++ line_begun (last_line text)

abbrev pub logical_left : Option LogicalLine → List LogicalLine
logical_left None = []
logical_left (Some line) = line ∷ []

-- the logical lines of a text, where its end closes the last one
abbrev pub all_logical_lines : List ℕ → List LogicalLine
all_logical_lines text =
    logical_after None 1 (all_lines text) ++ logical_left (logical_begun None 1 (all_lines text))

-- the logical lines of physical lines, the first of which has this number, where the end closes the last one
abbrev pub lines_closed : List (List ℕ) → ℕ → Option LogicalLine → List LogicalLine
lines_closed lines number begun = logical_after begun number lines ++ logical_left (logical_begun begun number lines)

-- those that the end closes after bytes of a line with this number
abbrev pub lines_left : List ℕ → ℕ → Option LogicalLine → List LogicalLine
lines_left line number begun = lines_closed (line_begun line) number begun

-- a fault at a place
abbrev pub fault_at : Place → BlifCause → BlifRefusal
fault_at place cause = refusals.Fault (record { place = place; cause = cause })

-- the refusal of a source, for that of the logical line that begins at this line
abbrev pub refusal_at : ℕ → LineRefusal → BlifRefusal
refusal_at line (line_refusals.Cause cause) = fault_at (Line line) cause
refusal_at line (line_refusals.Limit quantity) = refusals.Limit quantity
refusal_at line line_refusals.NoMemory = refusals.NoMemory

abbrev pub shown_as : {A : Type 0} → ℕ → Result A LineRefusal → Result A BlifRefusal
shown_as line (Ok state) = Ok state
shown_as line (Err refusal) = Err (refusal_at line refusal)

-- a logical line after those before it
abbrev pub line_read : Unset → BlifState → LogicalLine → Result BlifState BlifRefusal
line_read unset state line = shown_as line.first (text_line_read unset state line.text)

-- after a refusal nothing is read
abbrev pub unless_refused : Unset → Result BlifState BlifRefusal → LogicalLine → Result BlifState BlifRefusal
unless_refused unset (Ok state) line = line_read unset state line
unless_refused unset (Err refusal) line = Err refusal

-- logical lines, one after the other: what they build, or the refusal of the first one that is refused
abbrev pub lines_read : Unset → Result BlifState BlifRefusal → List LogicalLine → Result BlifState BlifRefusal
lines_read unset so_far [] = so_far
lines_read unset so_far (line ∷ lines) = lines_read unset (unless_refused unset so_far line) lines

-- the logical lines that stand whole in a text
abbrev pub text_read : Unset → List ℕ → Result BlifState BlifRefusal
text_read unset text = lines_read unset (Ok nothing_read) (logical_lines text)

-- the greatest number of bytes
abbrev pub limit : ℕ
limit = greatest_of quantities.SourceBytes

abbrev pub too_long : List ℕ → Option BlifRefusal
too_long text = if nat_lt limit (length text) then Some (refusals.Limit quantities.SourceBytes) else None

abbrev pub refusal_of : {A : Type 0} → Result A BlifRefusal → Option BlifRefusal
refusal_of (Ok state) = None
refusal_of (Err refusal) = Some refusal

-- the refusal that the bytes so far show: the first one that a logical line shows that stands whole within the limit,
-- or else the limit
abbrev pub early : Unset → List ℕ → Option BlifRefusal
early unset text = option_or (refusal_of (text_read unset (take limit text))) (too_long text)

-- what a source is about: the names of its nets, which are numbered from 1, and its machine
pub record PlainSource : Type 0 where
  pub nets : List (List ℕ)
  pub machine : PlainMachine

abbrev pub source_of : BlifState → PlainSource
source_of state = record { nets = state.nets; machine = with_nets state.machine (length state.nets) }

-- whether the net stands in a row
abbrev pub in_cube : ℕ → List PlainLiteral → Bool
in_cube net cube = list_any (λ literal. literal.net == net) cube

abbrev pub in_rows : ℕ → PlainEquation → Bool
in_rows net equation = list_any (λ cube. in_cube net cube) equation.cubes

-- whether it is read: in a row, as input of a latch, or as an output
abbrev pub is_read : PlainMachine → ℕ → Bool
is_read machine net =
    list_any (λ equation. in_rows net equation) machine.equations
    || (list_any (λ latch. latch.next.net == net) machine.latches || list_any (λ literal. literal.net == net) machine.outputs)

-- whether it is driven in the model: by an equation or a latch
abbrev pub is_made : PlainMachine → ℕ → Bool
is_made machine net =
    list_any (λ equation. equation.net == net) machine.equations || list_any (λ latch. latch.out == net) machine.latches

abbrev pub is_input : PlainMachine → ℕ → Bool
is_input machine net = list_any (λ input. input == net) machine.inputs

-- the clock is read as data, where it is a net
abbrev pub is_data : PlainMachine → Option ℕ → Bool
is_data machine None = false
is_data machine (Some net) = is_read machine net

-- the clock is driven in the model, or it stands neither in `.inputs` nor in `.clock`
abbrev pub is_derived : PlainMachine → Bool → Option ℕ → Bool
is_derived machine clocked None = not clocked
is_derived machine clocked (Some net) = is_made machine net || not (is_input machine net || clocked)

abbrev pub clock_cause : BlifState → Option (List ℕ) → Option BlifCause
clock_cause state None = None
clock_cause state (Some clock) =
    if is_data state.machine (number_in state.nets clock) then Some (causes.ClockAsData clock) else
    (if is_derived state.machine state.clocked (number_in state.nets clock) then Some (causes.DerivedClock clock) else None)

abbrev pub unless_clocked : Option BlifCause → PlainSource → Result PlainSource BlifRefusal
unless_clocked None source = Ok source
unless_clocked (Some cause) source = Err (fault_at Whole cause)

-- what all logical lines tell, where none is refused, but for the faults of a machine
abbrev pub whole_source : BlifState → Result PlainSource BlifRefusal
whole_source state =
    if state.modelled then unless_clocked (clock_cause (closed state) state.clock) (source_of (closed state))
    else Err (fault_at Whole causes.NoModel)

abbrev pub source_read : Result BlifState BlifRefusal → Result PlainSource BlifRefusal
source_read (Ok state) = whole_source state
source_read (Err refusal) = Err refusal

-- the judgement of a text, but for the faults of a machine: the refusal of the first logical line that is refused, else
-- the first fault of the whole, else the machine; of a text above the limit what its first bytes show
abbrev pub judgement : Unset → List ℕ → Result PlainSource BlifRefusal
judgement unset text =
    if nat_lt limit (length text) then Err (unwrap_or (early unset text) (refusals.Limit quantities.SourceBytes))
    else source_read (lines_read unset (Ok nothing_read) (all_logical_lines text))

-- the name is that of the net
abbrev pub IsNameOf : PlainSource → ℕ → List ℕ → Type 0
IsNameOf source net name = slice_get source.nets (net - 1) ≡ Some name

-- the cause is the machine's first refusal, and names the net
abbrev pub IsMachineCause : PlainSource → BlifCause → Type 0
IsMachineCause source (causes.DoubleDriver name) = (net : ℕ) × IsNameOf source net name × IsFirstRefusal source.machine (driven_twice net)
IsMachineCause source (causes.Undriven name) = (net : ℕ) × IsNameOf source net name × IsFirstRefusal source.machine (undriven net)
IsMachineCause source (causes.Cycle name) = (net : ℕ) × IsNameOf source net name × IsFirstRefusal source.machine (ungrounded net)
IsMachineCause source _ = ⊥

abbrev pub IsMachineRefusal : PlainSource → BlifRefusal → Type 0
IsMachineRefusal source (refusals.Fault fault) = (fault.place ≡ Whole) × IsMachineCause source fault.cause
IsMachineRefusal source _ = ⊥

-- an answer is the verdict of a judgement: its refusal, or the machine where that is well founded, or the machine's
-- first refusal
abbrev pub IsVerdictOf : Result PlainSource BlifRefusal → Result PlainMachine BlifRefusal → Type 0
IsVerdictOf (Ok source) (Ok read) = (read ≡ source.machine) × IsWellFounded source.machine
IsVerdictOf (Ok source) (Err refusal) = IsMachineRefusal source refusal
IsVerdictOf (Err refusal) (Ok read) = ⊥
IsVerdictOf (Err refusal) (Err other) = other ≡ refusal

-- the refusal's net is one of so many
abbrev pub NamesNet : ℕ → Grounding → Type 0
NamesNet nets (DoubleDriver net) = (1 ≤ net.number) × (net.number ≤ nets)
NamesNet nets (Undriven net) = (1 ≤ net.number) × (net.number ≤ nets)
NamesNet nets (Cycle net) = (1 ≤ net.number) × (net.number ≤ nets)
NamesNet nets NoMemory = ⊤
