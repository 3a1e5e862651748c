-- Why a logical line is refused, by its words and those of the lines before it: for each first word the checks in their
-- order, of which the first one that fails is shown.
use Rattle.std.specs.Prelude.{ℕ, ◌+◌, ◌-◌, ◌++◌, ◌==◌, Bool, false, not, ◌||◌, ◌&&◌, List, [], ◌∷◌, Option, Some, None, length, filter, codes, slice_index, nat_lt, if◌then◌else◌}
use Rattle.std.specs.Option.{option_or, is_some}
use Rattle.std.specs.List.{flat_map, list_any}
use Rattle.std.specs.Str.{bytes_eq}
use Rattle.pulse_ids.specs.Quantities.{greatest_of}
use Rattle.pulse_ids.specs.declared.quantities.Quantity.{Quantity}
use Rattle.pulse_ids.specs.declared.quantities.Quantity.TheVariants as quantities
use Rattle.word_scan.specs.Logical.{has_strange}
use Rattle.source_machine.specs.declared.unset.Unset.{Unset}
use Rattle.source_machine.specs.Unset.{first_bit}
use Rattle.blif_reader.specs.declared.refusals.BlifCause.{BlifCause}
use Rattle.blif_reader.specs.declared.refusals.BlifCause.TheVariants.{BadWord, NoModel, SecondModel, AfterEnd, Unsupported, RowShape, MixedCover, StrayRow, LatchType, MixedClock, NoFixedInit}
use Rattle.blif_reader.specs.declared.refusals.LineRefusal.{LineRefusal}
use Rattle.blif_reader.specs.declared.refusals.LineRefusal.TheVariants.{Cause, Limit}
use Rattle.blif_reader.specs.Rows.{cares_in, are_marks}
use Rattle.blif_reader.specs.Latches.{names_clock}
use Rattle.blif_reader.specs.Statements.{is_passed_over}
use Rattle.blif_reader.specs.Tellings.{input_words, output_words, latch_words, words_after, names_in, firsts, clocks_in, last_or, first_word, has_words, rows_under}

-- the first check that fails, of several in their order
abbrev pub first_failed : List (Option LineRefusal) → Option LineRefusal
first_failed [] = None
first_failed (check ∷ checks) = option_or check (first_failed checks)

-- a check, which fails where this is so
abbrev pub fails_where : Bool → BlifCause → Option LineRefusal
fails_where wrong cause = if wrong then Some (Cause cause) else None

-- more than the greatest number of it
abbrev pub above : Quantity → ℕ → Option LineRefusal
above quantity count = if nat_lt (greatest_of quantity) count then Some (Limit quantity) else None

-- a name with too many bytes
abbrev pub long : List ℕ → Option LineRefusal
long name = above quantities.NameBytes (length name)

-- a new net beside those of names before it, which are too many with it
abbrev pub net_above : List (List ℕ) → List ℕ → Option LineRefusal
net_above names name =
    if list_any (λ other. bytes_eq name other) names then None else above quantities.Nets (length (firsts names) + 1)

-- each name from the left, by the names before it in the line
abbrev pub each_from : (List (List ℕ) → List ℕ → Option LineRefusal) → List (List ℕ) → List (List ℕ) → Option LineRefusal
each_from refused before [] = None
each_from refused before (name ∷ names) = option_or (refused before name) (each_from refused (before ++ name ∷ []) names)

abbrev pub each_name : (List (List ℕ) → List ℕ → Option LineRefusal) → List (List ℕ) → Option LineRefusal
each_name refused names = each_from refused [] names

-- a line begins with this word
abbrev pub begins_with : List ℕ → List (List ℕ) → Bool
begins_with keyword [] = false
begins_with keyword (first ∷ words) = bytes_eq first keyword

abbrev pub is_model : List (List ℕ) → Bool
is_model line = begins_with (codes ".model") line

abbrev pub is_end : List (List ℕ) → Bool
is_end line = begins_with (codes ".end") line

abbrev pub is_latch : List (List ℕ) → Bool
is_latch line = begins_with (codes ".latch") line

-- its first word begins with a dot
abbrev pub is_dotted : List (List ℕ) → Bool
is_dotted [] = false
is_dotted (first ∷ words) = slice_index first 0 == 46

-- its first word begins with no dot
abbrev pub is_row : List (List ℕ) → Bool
is_row [] = false
is_row (first ∷ words) = not (slice_index first 0 == 46)

-- `.model`
abbrev pub model_refused : List (List (List ℕ)) → List (List ℕ) → Option LineRefusal
model_refused lines words = first_failed (
    fails_where (list_any is_model lines) SecondModel
    ∷ fails_where (nat_lt 1 (length words)) BadWord
    ∷ long (first_word words)
    ∷ [])

-- a name of an `.inputs` line
abbrev pub input_refused : List (List (List ℕ)) → List (List ℕ) → List ℕ → Option LineRefusal
input_refused lines before name = first_failed (
    long name
    ∷ net_above (flat_map names_in lines ++ before) name
    ∷ above quantities.Inputs (length (flat_map input_words lines ++ before) + 1)
    ∷ [])

-- a name of an `.outputs` line
abbrev pub output_refused : List (List (List ℕ)) → List (List ℕ) → List ℕ → Option LineRefusal
output_refused lines before name = first_failed (
    long name
    ∷ net_above (flat_map names_in lines ++ before) name
    ∷ above quantities.Outputs (length (flat_map output_words lines ++ before) + 1)
    ∷ [])

-- a name that differs from the first one
abbrev pub differs_from_first : List (List ℕ) → List ℕ → Bool
differs_from_first [] name = false
differs_from_first (first ∷ others) name = not (bytes_eq first name)

-- a name of a `.clock` line
abbrev pub clock_refused : List (List (List ℕ)) → List (List ℕ) → List ℕ → Option LineRefusal
clock_refused lines before name = first_failed (
    long name
    ∷ fails_where (differs_from_first (flat_map clocks_in lines ++ before) name) MixedClock
    ∷ [])

-- a name of a `.names` line
abbrev pub column_refused : List (List (List ℕ)) → List (List ℕ) → List ℕ → Option LineRefusal
column_refused lines before name = first_failed (
    long name
    ∷ net_above (flat_map names_in lines ++ before) name
    ∷ [])

-- `.names`
abbrev pub names_refused : List (List (List ℕ)) → List (List ℕ) → Option LineRefusal
names_refused lines words = first_failed (
    fails_where (not (has_words words)) BadWord
    ∷ each_name (λ before name. column_refused lines before name) words
    ∷ [])

-- the type and the control of a typed latch, by the words after `.latch`
abbrev pub kind_in : List (List ℕ) → List (List ℕ)
kind_in (input ∷ output ∷ kind ∷ control ∷ words) = kind ∷ []
kind_in words = []

abbrev pub control_of : List (List ℕ) → List (List ℕ)
control_of (input ∷ output ∷ kind ∷ control ∷ words) = control ∷ []
control_of words = []

-- those of the latches of lines
abbrev pub kinds_told : List (List (List ℕ)) → List (List ℕ)
kinds_told lines = flat_map (λ line. kind_in (latch_words line)) lines

abbrev pub controls_told : List (List (List ℕ)) → List (List ℕ)
controls_told lines = flat_map (λ line. control_of (latch_words line)) lines

-- a type of a latch
abbrev pub kind_refused : List ℕ → Option LineRefusal
kind_refused kind = first_failed (
    fails_where (bytes_eq kind (codes "ah") || (bytes_eq kind (codes "al") || bytes_eq kind (codes "as"))) LatchType
    ∷ fails_where (not (bytes_eq kind (codes "re") || bytes_eq kind (codes "fe"))) BadWord
    ∷ [])

abbrev pub is_fixed : List ℕ → Bool
is_fixed value = bytes_eq value (codes "0") || bytes_eq value (codes "1")

abbrev pub is_unfixed : List ℕ → Bool
is_unfixed value = bytes_eq value (codes "2") || bytes_eq value (codes "3")

-- the initial value of a latch
abbrev pub value_refused : List ℕ → Option LineRefusal
value_refused value = fails_where (not (is_fixed value || is_unfixed value)) BadWord

-- a type and a control that differ from those of the first typed latch, or a control that differs from the first name
-- of the clock
abbrev pub is_mixed_told : List (List (List ℕ)) → List ℕ → List ℕ → Bool
is_mixed_told lines kind control =
    (differs_from_first (kinds_told lines) kind || differs_from_first (controls_told lines) control)
    || (names_clock control && differs_from_first (flat_map clocks_in lines) control)

-- nets, number and first state of a latch
abbrev pub latch_checks : Unset → List (List (List ℕ)) → List ℕ → List ℕ → List ℕ → List (Option LineRefusal)
latch_checks unset lines input output value =
    net_above (flat_map names_in lines) input
    ∷ net_above (flat_map names_in lines ++ input ∷ []) output
    ∷ above quantities.Latches (length (filter is_latch lines) + 1)
    ∷ fails_where (not (is_fixed value || is_some (first_bit unset))) (NoFixedInit output)
    ∷ []

-- a latch without type and control, and one with them
abbrev pub untyped_refused : Unset → List (List (List ℕ)) → List ℕ → List ℕ → List ℕ → Option LineRefusal
untyped_refused unset lines input output value = first_failed (
    value_refused value
    ∷ long input
    ∷ long output
    ∷ latch_checks unset lines input output value)

abbrev pub typed_refused : Unset → List (List (List ℕ)) → List ℕ → List ℕ → List ℕ → List ℕ → List ℕ → Option LineRefusal
typed_refused unset lines input output kind control value = first_failed (
    kind_refused kind
    ∷ value_refused value
    ∷ fails_where (is_mixed_told lines kind control) MixedClock
    ∷ long input
    ∷ long output
    ∷ long control
    ∷ latch_checks unset lines input output value)

-- `.latch`: two to five words
abbrev pub latch_refused : Unset → List (List (List ℕ)) → List (List ℕ) → Option LineRefusal
latch_refused unset lines (input ∷ output ∷ []) = untyped_refused unset lines input output (codes "3")
latch_refused unset lines (input ∷ output ∷ value ∷ []) = untyped_refused unset lines input output value
latch_refused unset lines (input ∷ output ∷ kind ∷ control ∷ []) = typed_refused unset lines input output kind control (codes "3")
latch_refused unset lines (input ∷ output ∷ kind ∷ control ∷ value ∷ []) = typed_refused unset lines input output kind control value
latch_refused unset lines words = Some (Cause BadWord)

-- the names of a `.names` line, and the rows so far that stand under it
pub record OpenNames : Type 0 where
  pub names : List (List ℕ)
  pub rows : List (List (List ℕ))

abbrev pub opened : List (List ℕ) → List (List (List ℕ)) → Option OpenNames
opened line rows = if begins_with (codes ".names") line then Some (record { names = words_after (codes ".names") line; rows = rows }) else None

-- the last line that begins with a dot, where that is a `.names` line
abbrev pub open_names : List (List (List ℕ)) → Option OpenNames
open_names [] = None
open_names (line ∷ lines) = if list_any is_dotted lines then open_names lines else opened line (rows_under lines)

-- `0` or `1`
abbrev pub is_bit : List ℕ → Bool
is_bit word = bytes_eq word (codes "0") || bytes_eq word (codes "1")

-- a row of so many inputs: their marks and a bit, or the bit alone where there are none
abbrev pub is_row_of : ℕ → List (List ℕ) → Bool
is_row_of inputs (bit ∷ []) = (inputs == 0) && is_bit bit
is_row_of inputs (marks ∷ bit ∷ []) = not (inputs == 0) && (are_marks inputs marks && is_bit bit)
is_row_of inputs words = false

-- what a row adds to the size: one, and one for each mark that gives a literal
abbrev pub row_size : List (List ℕ) → ℕ
row_size (marks ∷ bit ∷ words) = 1 + cares_in marks
row_size words = 1

-- the number of rows and of their literals
abbrev pub size_told : List (List (List ℕ)) → ℕ
size_told [] = 0
size_told (line ∷ lines) = (if is_row line then row_size line else 0) + size_told lines

-- a line whose first word begins with no dot
abbrev pub row_refused : List (List (List ℕ)) → Option OpenNames → List (List ℕ) → Option LineRefusal
row_refused lines None row = Some (Cause StrayRow)
row_refused lines (Some equation) row = first_failed (
    fails_where (not (is_row_of (length equation.names - 1) row)) RowShape
    ∷ fails_where (list_any (λ other. not (bytes_eq (last_or [] other) (last_or [] row))) equation.rows) MixedCover
    ∷ above quantities.Size (size_told lines + row_size row)
    ∷ [])

-- a line whose first word begins with a dot, by this word and those after it
abbrev pub statement_refused : Unset → List (List (List ℕ)) → List ℕ → List (List ℕ) → Option LineRefusal
statement_refused unset lines first words =
    if bytes_eq first (codes ".model") then model_refused lines words else
    (if bytes_eq first (codes ".inputs") then each_name (λ before name. input_refused lines before name) words else
    (if bytes_eq first (codes ".outputs") then each_name (λ before name. output_refused lines before name) words else
    (if bytes_eq first (codes ".clock") then each_name (λ before name. clock_refused lines before name) words else
    (if bytes_eq first (codes ".names") then names_refused lines words else
    (if bytes_eq first (codes ".latch") then latch_refused unset lines words else
    (if bytes_eq first (codes ".end") then fails_where (has_words words) BadWord else
    (if is_passed_over first then None else Some (Cause (Unsupported first)))))))))

-- the refusal of a logical line of these words after lines of those, none of which is refused
abbrev pub line_refused : Unset → List (List (List ℕ)) → List (List ℕ) → Option LineRefusal
line_refused unset lines [] = None
line_refused unset lines (first ∷ words) = first_failed (
    fails_where (list_any has_strange (first ∷ words)) BadWord
    ∷ fails_where (not (list_any has_words lines) && not (bytes_eq first (codes ".model"))) NoModel
    ∷ fails_where (list_any is_end lines) (if bytes_eq first (codes ".model") then SecondModel else AfterEnd)
    ∷ (if slice_index first 0 == 46
    then first_failed (long first ∷ statement_refused unset lines first words ∷ [])
    else row_refused lines (open_names lines) (first ∷ words))
    ∷ [])
