-- No judgement of a source is want of memory.
use Rattle.std.proofs.Common.{◌≡◌, ℕ, ◌+◌, Bool, true, false, not, ◌||◌, ◌&&◌, ◌==◌, cond, ltb, List, [], ◌∷◌, length, take, Option, Some, None, Result, Ok, Err, codes, subst}
use Rattle.std.specs.Prelude.{⊤, slice_index, unwrap_or}
use Rattle.std.specs.Option.{option_or, is_some}
use Rattle.std.specs.Bool.{beq}
use Rattle.std.specs.Str.{bytes_eq}
use Rattle.pulse_ids.specs.Quantities.{greatest_of}
use Rattle.pulse_ids.specs.declared.quantities.Quantity.{Quantity}
use Rattle.pulse_ids.specs.declared.quantities.Quantity.TheVariants as quantities
use Rattle.numbered_names.specs.Names.{number_in}
use Rattle.word_scan.specs.Logical.{LogicalLine, dark_words, has_strange}
use Rattle.word_scan.specs.Reading.{read_on, unless_refused}
use Rattle.source_machine.specs.declared.unset.Unset.{Unset}
use Rattle.blif_reader.specs.declared.refusals.BlifCause.{BlifCause}
use Rattle.blif_reader.specs.declared.refusals.BlifRefusal.{BlifRefusal}
use Rattle.blif_reader.specs.declared.refusals.BlifRefusal.TheVariants as refusals
use Rattle.blif_reader.specs.declared.refusals.LineRefusal.{LineRefusal}
use Rattle.blif_reader.specs.declared.refusals.LineRefusal.TheVariants as line_refusals
use Rattle.blif_reader.specs.Rows.{cares_in, row_words, are_marks, bit_of}
use Rattle.blif_reader.specs.States.{BlifState, OpenEquation, nothing_read, closed}
use Rattle.blif_reader.specs.Refusing.{after, over}
use Rattle.blif_reader.specs.Latches.{net_read, edge_of, first_state, is_mixed, with_type, state_given, latch_added, latch_read, untyped_read, typed_read, latch_words_read, differs_in_clock}
use Rattle.blif_reader.specs.Latches.{clock_read}
use Rattle.blif_reader.specs.Statements.{model_read, input_read, output_read, column_read, names_read, end_read, is_passed_over, statement_read, has_rows, with_row, bit_added, row_added}
use Rattle.blif_reader.specs.Statements.{row_read_by, words_read, text_line_read}
use Rattle.blif_reader.specs.Sources.{PlainSource, shown_as, line_read, lines_read, logical_lines, text_read, limit, all_logical_lines, clock_cause, source_of, unless_clocked, source_read}
use Rattle.blif_reader.specs.Sources.{judgement, refusal_of}
use Rattle.blif_reader.specs.Laws.{IsOfBytes}

-- a line's refusal is one of its bytes
abbrev Right : {A : Type 0} → Result A LineRefusal → Type 0
Right (Err line_refusals.NoMemory) = ⊥
Right read = ⊤

if_right : {A : Type 0} (b : Bool) (x y : Result A LineRefusal) → Right x → Right y → Right (cond b x y)
if_right true x y f g = f
if_right false x y f g = g

over_right : {A : Type 0} (quantity : Quantity) (count : ℕ) (next : Result A LineRefusal) → Right next → Right (over quantity count next)
over_right quantity count next f = if_right (ltb (greatest_of quantity) count) (Err (line_refusals.Limit quantity)) next tt f

after_right : {A B : Type 0} (first : Result A LineRefusal) (next : A → Result B LineRefusal) → Right first → ((value : A) → Right (next value)) → Right (after first next)
after_right (Ok value) next f g = g value
after_right (Err (line_refusals.Cause cause)) next f g = tt
after_right (Err (line_refusals.Limit quantity)) next f g = tt
after_right (Err line_refusals.NoMemory) next f g = f

net_right : (nets : List (List ℕ)) (name : List ℕ) → Right (net_read nets name)
net_right nets name = if_right (is_some (number_in nets name)) _ _ tt (over_right quantities.Nets (length nets + 1) _ tt)

input_right : (state : BlifState) (name : List ℕ) → Right (input_read state name)
input_right state name =
    over_right quantities.NameBytes (length name) _ (after_right (net_read state.nets name) _ (net_right state.nets name) (λ nets. over_right quantities.Inputs (length state.machine.inputs + 1) _ tt))

output_right : (state : BlifState) (name : List ℕ) → Right (output_read state name)
output_right state name =
    over_right quantities.NameBytes (length name) _ (after_right (net_read state.nets name) _ (net_right state.nets name)
    (λ nets. over_right quantities.Outputs (length state.machine.outputs + 1) _ tt))

column_right : (state : BlifState) (name : List ℕ) → Right (column_read state name)
column_right state name = over_right quantities.NameBytes (length name) _ (after_right (net_read state.nets name) _ (net_right state.nets name) (λ nets. tt))

clock_right : (state : BlifState) (name : List ℕ) → Right (clock_read state name)
clock_right state name = over_right quantities.NameBytes (length name) _ (if_right (differs_in_clock state.clock name) _ _ tt tt)

module _ (read : BlifState → List ℕ → Result BlifState LineRefusal) (each : (state : BlifState) (word : List ℕ) → Right (read state word)) where
  word_right : (so_far : Result BlifState LineRefusal) (word : List ℕ) → Right so_far → Right (unless_refused read so_far word)
  word_right (Ok state) word f = each state word
  word_right (Err refusal) word f = f

  all_right : (words : List (List ℕ)) (so_far : Result BlifState LineRefusal) → Right so_far → Right (read_on read so_far words)
  all_right [] so_far f = f
  all_right (word ∷ words) so_far f = all_right words (unless_refused read so_far word) (word_right so_far word f)

edge_right : (kind : List ℕ) → Right (edge_of kind)
edge_right kind =
    if_right (bytes_eq kind (codes "ah") || (bytes_eq kind (codes "al") || bytes_eq kind (codes "as"))) _ _ tt
    (if_right (bytes_eq kind (codes "re")) _ _ tt (if_right (bytes_eq kind (codes "fe")) _ _ tt tt))

value_right : (value : List ℕ) → Right (first_state value)
value_right value =
    if_right (bytes_eq value (codes "0")) _ _ tt (if_right (bytes_eq value (codes "1")) _ _ tt (if_right (bytes_eq value (codes "2") || bytes_eq value (codes "3")) _ _ tt tt))

added_right : (state : BlifState) (middle nets : List (List ℕ)) (input output : List ℕ) (init : Option Bool) → Right (latch_added state middle nets input output init)
added_right state middle nets input output None = tt
added_right state middle nets input output (Some init) = tt

latch_right : (unset : Unset) (state : BlifState) (input output : List ℕ) (init : Option Bool) → Right (latch_read unset state input output init)
latch_right unset state input output init =
    after_right (net_read state.nets input) _ (net_right state.nets input) (λ middle.
    after_right (net_read middle output) _ (net_right middle output) (λ nets.
    over_right quantities.Latches (length state.machine.latches + 1) _ (added_right state middle nets input output (state_given unset init))))

untyped_right : (unset : Unset) (state : BlifState) (input output value : List ℕ) → Right (untyped_read unset state input output value)
untyped_right unset state input output value =
    after_right (first_state value) _ (value_right value) (λ init.
    over_right quantities.NameBytes (length input) _ (over_right quantities.NameBytes (length output) _ (latch_right unset state input output init)))

typed_right : (unset : Unset) (state : BlifState) (input output kind control value : List ℕ) → Right (typed_read unset state input output kind control value)
typed_right unset state input output kind control value =
    after_right (edge_of kind) _ (edge_right kind) (λ rises.
    after_right (first_state value) _ (value_right value) (λ init.
    if_right (is_mixed state rises control) _ _ tt
    (over_right quantities.NameBytes (length input) _ (over_right quantities.NameBytes (length output) _
    (over_right quantities.NameBytes (length control) _ (latch_right unset (with_type state rises control) input output init))))))

latch_words_right : (unset : Unset) (state : BlifState) (words : List (List ℕ)) → Right (latch_words_read unset state words)
latch_words_right unset state [] = tt
latch_words_right unset state (a ∷ []) = tt
latch_words_right unset state (a ∷ b ∷ []) = untyped_right unset state a b (codes "3")
latch_words_right unset state (a ∷ b ∷ c ∷ []) = untyped_right unset state a b c
latch_words_right unset state (a ∷ b ∷ c ∷ d ∷ []) = typed_right unset state a b c d (codes "3")
latch_words_right unset state (a ∷ b ∷ c ∷ d ∷ e ∷ []) = typed_right unset state a b c d e
latch_words_right unset state (a ∷ b ∷ c ∷ d ∷ e ∷ f ∷ words) = tt

model_right : (state : BlifState) (words : List (List ℕ)) → Right (model_read state words)
model_right state [] = if_right state.modelled _ _ tt tt
model_right state (name ∷ []) = if_right state.modelled _ _ tt (over_right quantities.NameBytes (length name) _ tt)
model_right state (name ∷ word ∷ words) = if_right state.modelled _ _ tt tt

names_right : (state : BlifState) (words : List (List ℕ)) → Right (names_read state words)
names_right state [] = tt
names_right state (word ∷ words) = all_right column_read column_right (word ∷ words) (Ok state) tt

end_right : (state : BlifState) (words : List (List ℕ)) → Right (end_read state words)
end_right state [] = tt
end_right state (word ∷ words) = tt

statement_right : (unset : Unset) (state : BlifState) (first : List ℕ) (words : List (List ℕ)) → Right (statement_read unset state first words)
statement_right unset state first words =
    if_right (bytes_eq first (codes ".model")) _ _ (model_right state words)
    (if_right (bytes_eq first (codes ".inputs")) _ _ (all_right input_read input_right words (Ok state) tt)
    (if_right (bytes_eq first (codes ".outputs")) _ _ (all_right output_read output_right words (Ok state) tt)
    (if_right (bytes_eq first (codes ".clock")) _ _ (all_right clock_read clock_right words (Ok state) tt)
    (if_right (bytes_eq first (codes ".names")) _ _ (names_right state words)
    (if_right (bytes_eq first (codes ".latch")) _ _ (latch_words_right unset state words)
    (if_right (bytes_eq first (codes ".end")) _ _ (end_right state words)
    (if_right (is_passed_over first) _ _ tt tt)))))))

bit_right : (state : BlifState) (unended : OpenEquation) (marks : List ℕ) (bit : Option Bool) → Right (bit_added state unended marks bit)
bit_right state unended marks None = tt
bit_right state unended marks (Some bit) =
    if_right (has_rows unended.equation.cubes && not (beq unended.equation.on bit)) _ _ tt
    (over_right quantities.Size (state.size + (1 + cares_in marks)) (Ok (record state { size = state.size + (1 + cares_in marks); unended = Some (with_row unended bit marks) })) tt)

added_row_right : (state : BlifState) (unended : OpenEquation) (words : Option (List ℕ × List ℕ)) → Right (row_added state unended words)
added_row_right state unended None = tt
added_row_right state unended (Some said) = if_right (are_marks (length unended.columns) said.0) _ _ (bit_right state unended said.0 (bit_of said.1)) tt

row_right : (state : BlifState) (unended : Option OpenEquation) (words : List (List ℕ)) → Right (row_read_by state unended words)
row_right state None words = tt
row_right state (Some unended) words = added_row_right state unended (row_words (length unended.columns == 0) words)

words_right : (unset : Unset) (state : BlifState) (text : List ℕ) (words : List (List ℕ)) → Right (words_read unset state text words)
words_right unset state text [] = tt
words_right unset state text (first ∷ words) =
    if_right (has_strange text) _ _ tt
    (if_right (not state.modelled && not (bytes_eq first (codes ".model"))) _ _ tt
    (if_right state.ended _ _ tt
    (if_right (slice_index first 0 == 46) _ _
    (over_right quantities.NameBytes (length first) _ (statement_right unset (closed state) first words)) (row_right state state.unended (first ∷ words)))))

-- a refusal of the source is one of its bytes
abbrev AllRight : {A : Type 0} → Result A BlifRefusal → Type 0
AllRight (Ok value) = ⊤
AllRight (Err refusal) = IsOfBytes refusal

shown_right : {A : Type 0} (line : ℕ) (read : Result A LineRefusal) → Right read → AllRight (shown_as line read)
shown_right line (Ok value) f = tt
shown_right line (Err (line_refusals.Cause cause)) f = tt
shown_right line (Err (line_refusals.Limit quantity)) f = tt
shown_right line (Err line_refusals.NoMemory) f = f

lines_right : (unset : Unset) (lines : List LogicalLine) (so_far : Result BlifState BlifRefusal) → AllRight so_far → AllRight (lines_read unset so_far lines)
lines_right unset [] so_far f = f
lines_right unset (line ∷ lines) (Ok state) f =
    lines_right unset lines (line_read unset state line) (shown_right line.first (text_line_read unset state line.text) (words_right unset state line.text (dark_words line.text)))
lines_right unset (line ∷ lines) (Err refusal) f = lines_right unset lines (Err refusal) f

early_right : (read : Result BlifState BlifRefusal) (long : Bool) → AllRight read
    → IsOfBytes (unwrap_or (option_or (refusal_of read) (cond long (Some (refusals.Limit quantities.SourceBytes)) None)) (refusals.Limit quantities.SourceBytes))
early_right (Ok state) true f = tt
early_right (Ok state) false f = tt
early_right (Err refusal) long f = f

clocked_right : (cause : Option BlifCause) (source : PlainSource) → AllRight (unless_clocked cause source)
clocked_right None source = tt
clocked_right (Some cause) source = tt

either_right : (b : Bool) (x y : Result PlainSource BlifRefusal) → AllRight x → AllRight y → AllRight (cond b x y)
either_right true x y f g = f
either_right false x y f g = g

source_right : (read : Result BlifState BlifRefusal) → AllRight read → AllRight (source_read read)
source_right (Ok state) f = either_right state.modelled _ _ (clocked_right (clock_cause (closed state) state.clock) (source_of (closed state))) tt
source_right (Err refusal) f = f

pub judged_right : (unset : Unset) (text : List ℕ) → AllRight (judgement unset text)
judged_right unset text =
    either_right (ltb limit (length text)) _ _
    (early_right (text_read unset (take limit text)) (ltb limit (length text)) (lines_right unset (logical_lines (take limit text)) (Ok nothing_read) tt))
    (source_right (lines_read unset (Ok nothing_read) (all_logical_lines text)) (lines_right unset (all_logical_lines text) (Ok nothing_read) tt))

pub of_bytes : (unset : Unset) (text : List ℕ) (refusal : BlifRefusal) → judgement unset text ≡ Err refusal → IsOfBytes refusal
of_bytes unset text refusal h = subst (λ (r : Result PlainSource BlifRefusal). AllRight r) h (judged_right unset text)
