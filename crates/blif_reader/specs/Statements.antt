-- What each logical line says after those before it.
use Rattle.std.specs.Prelude.{ℕ, ◌+◌, ◌==◌, Bool, true, false, not, ◌||◌, ◌&&◌, List, [], ◌∷◌, Option, Some, None, Result, Ok, Err, length, slice_index, codes, if◌then◌else◌}
use Rattle.std.specs.Bool.{beq}
use Rattle.std.specs.Str.{bytes_eq}
use Rattle.std.specs.List.{list_any}
use Rattle.pulse_ids.specs.declared.quantities.Quantity.TheVariants as quantities
use Rattle.numbered_names.specs.Names.{number_for}
use Rattle.word_scan.specs.Logical.{dark_words, has_strange}
use Rattle.word_scan.specs.Reading.{read_on}
use Rattle.source_machine.specs.declared.unset.Unset.{Unset}
use Rattle.source_machine.specs.Machines.{PlainLiteral}
use Rattle.source_machine.specs.Additions.{with_input, with_output, with_cube}
use Rattle.blif_reader.specs.declared.refusals.BlifCause.TheVariants.{BadWord, NoModel, SecondModel, AfterEnd, Unsupported, RowShape, MixedCover, StrayRow}
use Rattle.blif_reader.specs.declared.refusals.LineRefusal.{LineRefusal}
use Rattle.blif_reader.specs.declared.refusals.LineRefusal.TheVariants.{Cause}
use Rattle.blif_reader.specs.Rows.{cares_in, literals_of, bit_of, row_words, are_marks}
use Rattle.blif_reader.specs.States.{BlifState, OpenEquation, closed, with_column}
use Rattle.blif_reader.specs.Refusing.{after, over, unless_long}
use Rattle.blif_reader.specs.Latches.{net_read, latch_words_read, clock_read}

-- `.model`, whose name is dropped
abbrev pub model_read : BlifState → List (List ℕ) → Result BlifState LineRefusal
model_read state [] = if state.modelled then Err (Cause SecondModel) else Ok (record state { modelled = true })
model_read state (name ∷ []) =
    if state.modelled then Err (Cause SecondModel) else unless_long name (Ok (record state { modelled = true }))
model_read state (name ∷ word ∷ words) = if state.modelled then Err (Cause SecondModel) else Err (Cause BadWord)

-- a name of an `.inputs` line
abbrev pub input_read : BlifState → List ℕ → Result BlifState LineRefusal
input_read state name =
    unless_long name (after (net_read state.nets name) (λ nets.
    over quantities.Inputs (length state.machine.inputs + 1)
    (Ok (record state { nets = nets; machine = with_input state.machine (number_for state.nets name) (Some name) }))))

-- a name of an `.outputs` line
abbrev pub output_read : BlifState → List ℕ → Result BlifState LineRefusal
output_read state name =
    unless_long name (after (net_read state.nets name) (λ nets.
    over quantities.Outputs (length state.machine.outputs + 1)
    (Ok (record state {
      nets = nets;
      machine = with_output state.machine (record { net = number_for state.nets name; negated = false }) (Some name);
    }))))

-- a name of a `.names` line
abbrev pub column_read : BlifState → List ℕ → Result BlifState LineRefusal
column_read state name =
    unless_long name (after (net_read state.nets name) (λ nets.
    Ok (record state { nets = nets; unended = Some (with_column state.unended (number_for state.nets name)) })))

abbrev pub names_read : BlifState → List (List ℕ) → Result BlifState LineRefusal
names_read state [] = Err (Cause BadWord)
names_read state (word ∷ words) = read_on column_read (Ok state) (word ∷ words)

-- `.end`
abbrev pub end_read : BlifState → List (List ℕ) → Result BlifState LineRefusal
end_read state [] = Ok (record state { ended = true })
end_read state (word ∷ words) = Err (Cause BadWord)

-- the words of lines of area, delay, wires, arrival and required times
abbrev pub is_timing : List ℕ → Bool
is_timing word = list_any (λ other. bytes_eq word other) (
    codes ".area"
    ∷ codes ".delay"
    ∷ codes ".wire_load_slope"
    ∷ codes ".wire"
    ∷ codes ".input_arrival"
    ∷ codes ".default_input_arrival"
    ∷ codes ".output_required"
    ∷ codes ".default_output_required"
    ∷ []
    )

-- those of lines of drive and load
abbrev pub is_load : List ℕ → Bool
is_load word = list_any (λ other. bytes_eq word other) (
    codes ".input_drive"
    ∷ codes ".default_input_drive"
    ∷ codes ".output_load"
    ∷ codes ".default_output_load"
    ∷ codes ".max_input_load"
    ∷ codes ".default_max_input_load"
    ∷ []
    )

-- lines whose meaning is left out
abbrev pub is_passed_over : List ℕ → Bool
is_passed_over word = is_timing word || is_load word

-- a line whose first word begins with a dot, by this word and those after it
abbrev pub statement_read : Unset → BlifState → List ℕ → List (List ℕ) → Result BlifState LineRefusal
statement_read unset state first words =
    if bytes_eq first (codes ".model") then model_read state words else
    (if bytes_eq first (codes ".inputs") then read_on input_read (Ok state) words else
    (if bytes_eq first (codes ".outputs") then read_on output_read (Ok state) words else
    (if bytes_eq first (codes ".clock") then read_on clock_read (Ok state) words else
    (if bytes_eq first (codes ".names") then names_read state words else
    (if bytes_eq first (codes ".latch") then latch_words_read unset state words else
    (if bytes_eq first (codes ".end") then end_read state words else
    (if is_passed_over first then Ok state else Err (Cause (Unsupported first)))))))))

-- whether rows came before
abbrev pub has_rows : List (List PlainLiteral) → Bool
has_rows [] = false
has_rows (cube ∷ cubes) = true

-- the equation after one more row, which gives it this bit
abbrev pub with_row : OpenEquation → Bool → List ℕ → OpenEquation
with_row unended bit marks =
    record unended { equation = with_cube (record unended.equation { on = bit }) (literals_of unended.columns marks) }

abbrev pub bit_added : BlifState → OpenEquation → List ℕ → Option Bool → Result BlifState LineRefusal
bit_added state unended marks None = Err (Cause RowShape)
bit_added state unended marks (Some bit) =
    if has_rows unended.equation.cubes && not (beq unended.equation.on bit) then Err (Cause MixedCover) else
    over quantities.Size (state.size + (1 + cares_in marks))
    (Ok (record state { size = state.size + (1 + cares_in marks); unended = Some (with_row unended bit marks) }))

-- a row with these marks and this bit, where they fit the columns
abbrev pub marks_added : BlifState → Option OpenEquation → List ℕ → Bool → Result BlifState LineRefusal
marks_added state None marks bit = Err (Cause StrayRow)
marks_added state (Some unended) marks bit = bit_added state unended marks (Some bit)

-- a row of this equation, by its marks and its bit
abbrev pub row_added : BlifState → OpenEquation → Option (List ℕ × List ℕ) → Result BlifState LineRefusal
row_added state unended None = Err (Cause RowShape)
row_added state unended (Some (marks, bit)) =
    if are_marks (length unended.columns) marks then bit_added state unended marks (bit_of bit) else Err (Cause RowShape)

-- a line whose first word begins with no dot
abbrev pub row_read_by : BlifState → Option OpenEquation → List (List ℕ) → Result BlifState LineRefusal
row_read_by state None words = Err (Cause StrayRow)
row_read_by state (Some unended) words = row_added state unended (row_words (length unended.columns == 0) words)

abbrev pub row_read : BlifState → List (List ℕ) → Result BlifState LineRefusal
row_read state words = row_read_by state state.unended words

-- the checks that come before those of a statement or a row
abbrev pub words_read : Unset → BlifState → List ℕ → List (List ℕ) → Result BlifState LineRefusal
words_read unset state text [] = Ok state
words_read unset state text (first ∷ words) =
    if has_strange text then Err (Cause BadWord) else
    (if not state.modelled && not (bytes_eq first (codes ".model")) then Err (Cause NoModel) else
    (if state.ended then Err (Cause (if bytes_eq first (codes ".model") then SecondModel else AfterEnd)) else
    (if slice_index first 0 == 46 then unless_long first (statement_read unset (closed state) first words)
    else row_read state (first ∷ words))))

-- a logical line
abbrev pub text_line_read : Unset → BlifState → List ℕ → Result BlifState LineRefusal
text_line_read unset state text = words_read unset state text (dark_words text)
