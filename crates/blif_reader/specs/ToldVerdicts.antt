-- When a whole source is refused, and what it is judged to be, by the words of its logical lines.
use Rattle.std.specs.Prelude.{◌≡◌, ℕ, ◌++◌, Bool, not, ◌||◌, List, [], ◌∷◌, Option, Some, None, Result, Ok, Err, option_map, unwrap_or, length, take, nat_lt, if◌then◌else◌}
use Rattle.std.specs.Option.{option_or}
use Rattle.std.specs.List.{flat_map, list_any}
use Rattle.std.specs.Str.{bytes_eq}
use Rattle.pulse_ids.specs.declared.quantities.Quantity.TheVariants as quantities
use Rattle.word_scan.specs.Logical.{LogicalLine, dark_words}
use Rattle.source_machine.specs.declared.places.Place.TheVariants.{Whole}
use Rattle.source_machine.specs.declared.unset.Unset.{Unset}
use Rattle.blif_reader.specs.declared.refusals.BlifCause.TheVariants.{NoModel, ClockAsData, DerivedClock}
use Rattle.blif_reader.specs.declared.refusals.BlifRefusal.{BlifRefusal}
use Rattle.blif_reader.specs.declared.refusals.BlifRefusal.TheVariants as refusals
use Rattle.blif_reader.specs.Rows.{is_care}
use Rattle.blif_reader.specs.Sources.{PlainSource, logical_lines, all_logical_lines, limit, too_long, fault_at, refusal_at}
use Rattle.blif_reader.specs.Tellings.{input_words, output_words, clock_words, latch_words, equation_words, last_or, all_but_last, first_word, rows_under, clock_told, has_words, source_told, words_of}
use Rattle.blif_reader.specs.LineRefusals.{line_refused}

-- the refusal of the first line that is refused, by the words of the lines before it
abbrev pub first_refusal : Unset → List (List (List ℕ)) → List LogicalLine → Option BlifRefusal
first_refusal unset before [] = None
first_refusal unset before (line ∷ lines) =
    option_or (option_map (refusal_at line.first) (line_refused unset before (dark_words line.text)))
    (first_refusal unset (before ++ dark_words line.text ∷ []) lines)

-- a name is one of these
abbrev pub is_among : List ℕ → List (List ℕ) → Bool
is_among name names = list_any (λ other. bytes_eq other name) names

-- the names that marks make literals, from the left
abbrev pub cares_of : List (List ℕ) → List ℕ → List (List ℕ)
cares_of [] marks = []
cares_of (name ∷ names) [] = []
cares_of (name ∷ names) (mark ∷ marks) = if is_care mark then name ∷ cares_of names marks else cares_of names marks

-- the names in the literals of the rows under a `.names` line of these words
abbrev pub literals_under : List (List ℕ) → List (List (List ℕ)) → List (List ℕ)
literals_under [] rows = []
literals_under (name ∷ names) rows = flat_map (λ row. cares_of (all_but_last name names) (first_word row)) rows

-- those of all lines
abbrev pub row_literals : List (List (List ℕ)) → List (List ℕ)
row_literals [] = []
row_literals (line ∷ lines) = literals_under (equation_words line) (rows_under lines) ++ row_literals lines

-- the net of the equation of a `.names` line of these words
abbrev pub last_name : List (List ℕ) → List (List ℕ)
last_name [] = []
last_name (name ∷ names) = last_or name names ∷ []

-- the input of a latch, and its output
abbrev pub latch_input : List (List ℕ) → List (List ℕ)
latch_input (input ∷ output ∷ words) = input ∷ []
latch_input words = []

abbrev pub latch_output : List (List ℕ) → List (List ℕ)
latch_output (input ∷ output ∷ words) = output ∷ []
latch_output words = []

-- a name stands in a literal of a row, as input of a latch, or in `.outputs`
abbrev pub is_read_in : List (List (List ℕ)) → List ℕ → Bool
is_read_in lines name =
    is_among name (row_literals lines)
    || (is_among name (flat_map (λ line. latch_input (latch_words line)) lines) || is_among name (flat_map output_words lines))

-- a name is the net of an equation or the output of a latch
abbrev pub is_made_in : List (List (List ℕ)) → List ℕ → Bool
is_made_in lines name =
    is_among name (flat_map (λ line. last_name (equation_words line)) lines)
    || is_among name (flat_map (λ line. latch_output (latch_words line)) lines)

-- a name stands in `.inputs`, or lines name the clock in `.clock`: where no line is refused all names of clocks are one
abbrev pub is_declared_in : List (List (List ℕ)) → List ℕ → Bool
is_declared_in lines name = is_among name (flat_map input_words lines) || has_words (flat_map clock_words lines)

-- the fault of the clock of this name
abbrev pub clock_refused_by : List (List (List ℕ)) → Option (List ℕ) → Option BlifRefusal
clock_refused_by lines None = None
clock_refused_by lines (Some clock) =
    if is_read_in lines clock then Some (fault_at Whole (ClockAsData clock)) else
    (if is_made_in lines clock || not (is_declared_in lines clock) then Some (fault_at Whole (DerivedClock clock)) else None)

-- the fault of a whole source, none of whose lines is refused, but for those of a machine
abbrev pub whole_refused : List (List (List ℕ)) → Option BlifRefusal
whole_refused lines =
    if not (list_any has_words lines) then Some (fault_at Whole NoModel) else clock_refused_by lines (clock_told lines)

abbrev pub unless_refused_by : {A : Type 0} → Option BlifRefusal → A → Result A BlifRefusal
unless_refused_by None value = Ok value
unless_refused_by (Some refusal) value = Err refusal

-- the judgement of logical lines: the refusal of the first one that is refused, else the first fault of the whole, else
-- what they tell
abbrev pub lines_judged : Unset → List LogicalLine → Result PlainSource BlifRefusal
lines_judged unset lines =
    unless_refused_by (option_or (first_refusal unset [] lines) (whole_refused (words_of lines))) (source_told unset (words_of lines))

-- what the first bytes of a text show
abbrev pub early_told : Unset → List ℕ → Option BlifRefusal
early_told unset text = option_or (first_refusal unset [] (logical_lines (take limit text))) (too_long text)

-- the judgement of a text
abbrev pub judgement_told : Unset → List ℕ → Result PlainSource BlifRefusal
judgement_told unset text =
    if nat_lt limit (length text) then Err (unwrap_or (early_told unset text) (refusals.Limit quantities.SourceBytes))
    else lines_judged unset (all_logical_lines text)
