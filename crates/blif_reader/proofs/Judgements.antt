-- What the end of a text shows.
use Rattle.std.proofs.Common.{◌≡◌, ℕ, ◌+◌, ◌<◌, ◌≤◌, ◌⊎◌, inl, inr, Bool, true, false, cond, ltb, List, ◌++◌, length, Option, Some, None, Result, Ok, Err, refl, sym, ap, subst, ◌∙◌}
use Rattle.std.specs.Prelude.{unwrap_or}
use Rattle.std.specs.Option.{option_or}
use Rattle.std.proofs.lemmas.Bool.{lt-ltb, le-ltb, cases_lt}
use Rattle.std.proofs.lemmas.List.{take_all}
use Rattle.pulse_ids.specs.declared.quantities.Quantity.TheVariants as quantities
use Rattle.source_machine.specs.declared.unset.Unset.{Unset}
use Rattle.word_scan.specs.Lines.{PlainLines, whole_lines, last_line, begun, next_number}
use Rattle.word_scan.specs.Logical.{LogicalLine, PlainLogical, logical_after, logical_begun, begun_line}
use Rattle.blif_reader.specs.declared.refusals.BlifRefusal.{BlifRefusal}
use Rattle.blif_reader.specs.declared.refusals.BlifRefusal.TheVariants as refusals
use Rattle.blif_reader.specs.declared.readings.Reading.{Reading}
use Rattle.blif_reader.specs.States.{BlifState, nothing_read}
use Rattle.blif_reader.specs.Sources.{limit, line_begun, logical_left, lines_left, all_lines, all_logical_lines, lines_read, text_read, refusal_of, too_long, early, whole_source, source_read}
use Rattle.blif_reader.specs.Sources.{PlainSource, judgement, IsVerdictOf}
use Rattle.blif_reader.specs.Readings.{HasRead, HasStopped, IsReading, OrMemory}
use Rattle.blif_reader.proofs.Taking.{or_memory_then, read_joined, read_refused, lines_more, lines_on, begun_lines}
use Rattle.blif_reader.proofs.Limits.{not_too_long, stands}

-- of a text within the limit all lines are judged
pub judged : (unset : Unset) (text : List ℕ) → length text ≤ limit → judgement unset text ≡ source_read (lines_read unset (Ok nothing_read) (all_logical_lines text))
judged unset text short = let e : ltb limit (length text) ≡ false = le-ltb _ _ short in rw e refl

-- what a whole logical line shows refuses all of them
all_refused : (unset : Unset) (text : List ℕ) (refusal : BlifRefusal) → text_read unset text ≡ Err refusal → lines_read unset (Ok nothing_read) (all_logical_lines text) ≡ Err refusal
all_refused unset text refusal h =
    let last : List (List ℕ) = line_begun (last_line text) in
    let left : List LogicalLine = logical_left (logical_begun None 1 (all_lines text)) in
    let rest : List LogicalLine = logical_after (logical_begun None 1 (whole_lines text)) (1 + length (whole_lines text)) last in
    read_joined unset (Ok nothing_read) (logical_after None 1 (all_lines text)) left
    ∙ ap (λ (r : Result BlifState BlifRefusal). lines_read unset r left)
    (lines_more unset text last ∙ ap (λ (r : Result BlifState BlifRefusal). lines_read unset r rest) h ∙ read_refused unset refusal rest)
    ∙ read_refused unset refusal left

shown_by : (unset : Unset) (text : List ℕ) (refusal : BlifRefusal) (read : Result BlifState BlifRefusal) → text_read unset text ≡ read
    → option_or (refusal_of (text_read unset text)) None ≡ Some refusal → read ≡ Err refusal
shown_by unset text refusal (Ok state) e h =
    let k : ◌≡◌ {A = Option BlifRefusal} None (Some refusal) = subst (λ (r : Result BlifState BlifRefusal). option_or (refusal_of r) None ≡ Some refusal) e h in absurd cc
shown_by unset text refusal (Err other) e h =
    let k : ◌≡◌ {A = Option BlifRefusal} (Some other) (Some refusal) = subst (λ (r : Result BlifState BlifRefusal). option_or (refusal_of r) None ≡ Some refusal) e h in
    let same : other ≡ refusal = cc in ap (λ (r : BlifRefusal). Err r) same

-- what the first bytes show is the judgement
pub early_judged : (unset : Unset) (text : List ℕ) (refusal : BlifRefusal) → early unset text ≡ Some refusal → judgement unset text ≡ Err refusal
early_judged unset text refusal h = by_length (cases_lt limit (length text))
  where
    by_length : (limit < length text) ⊎ (length text ≤ limit) → judgement unset text ≡ Err refusal
    by_length (inl long) =
        let e : ltb limit (length text) ≡ true = lt-ltb _ _ long in
        let step : judgement unset text ≡ Err (unwrap_or (early unset text) (refusals.Limit quantities.SourceBytes)) =
        ap (λ (b : Bool). cond b (Err (unwrap_or (early unset text) (refusals.Limit quantities.SourceBytes))) (source_read (lines_read unset (Ok nothing_read) (all_logical_lines text)))) e in
        step ∙ ap (λ (o : Option BlifRefusal). Err (unwrap_or o (refusals.Limit quantities.SourceBytes))) h
    by_length (inr short) =
        let k : option_or (refusal_of (text_read unset text)) None ≡ Some refusal =
        ap (option_or (refusal_of (text_read unset text))) (sym (not_too_long text short))
        ∙ ap (λ (t : List ℕ). option_or (refusal_of (text_read unset t)) (too_long text)) (sym (take_all limit text short)) ∙ h in
        judged unset text short ∙ ap source_read (all_refused unset text refusal (shown_by unset text refusal (text_read unset text) refl k))

-- all lines after those that were read
pub last_read : (unset : Unset) (text : List ℕ) (lines : PlainLines) (logical : PlainLogical) (state : BlifState) → HasRead unset text lines logical state
    → lines_read unset (Ok nothing_read) (all_logical_lines text) ≡ lines_read unset (Ok state) (lines_left (begun lines) (next_number lines) (begun_line logical))
last_read unset text lines logical state has =
    let at_end : (line : List ℕ) → lines_read unset (Ok nothing_read) (logical_after None 1 (whole_lines text ++ line_begun line) ++ logical_left
    (logical_begun None 1 (whole_lines text ++ line_begun line)))
    ≡ lines_read unset (Ok state) (lines_left line (next_number lines) (begun_line logical)) = λ line.
    let last : List (List ℕ) = line_begun line in
    read_joined unset (Ok nothing_read) (logical_after None 1 (whole_lines text ++ last)) (logical_left (logical_begun None 1 (whole_lines text ++ last)))
    ∙ ap (λ (r : Result BlifState BlifRefusal). lines_read unset r (logical_left (logical_begun None 1 (whole_lines text ++ last)))) (lines_on unset text lines logical state has last)
    ∙ ap (λ (b : Option LogicalLine). lines_read unset (lines_read unset (Ok state) (logical_after (begun_line logical) (next_number lines) last)) (logical_left b))
    (begun_lines unset text lines logical state has last)
    ∙ sym (read_joined unset (Ok state) (logical_after (begun_line logical) (next_number lines) last) (logical_left (logical_begun (begun_line logical) (next_number lines) last))) in
    at_end (last_line text) ∙ ap (λ (l : List ℕ). lines_read unset (Ok state) (lines_left l (next_number lines) (begun_line logical))) has.at.present

-- a reading that goes on
pub record Going (unset : Unset) (text : List ℕ) (reading : Reading) : Type 0 where
  pub choice : reading.unset ≡ unset
  pub judgement_is : judgement unset text ≡ source_read (lines_read reading.unset (Ok reading.state) (lines_left (begun reading.lines) (next_number reading.lines) (begun_line reading.logical)))

pub going : (unset : Unset) (text : List ℕ) (reading : Reading) → reading.stopped ≡ None → IsReading unset text reading → Going unset text reading
going unset text reading is read =
    let h : HasStopped unset text None reading.lines reading.logical reading.state =
    subst (λ (s : Option BlifRefusal). HasStopped unset text s reading.lines reading.logical reading.state) is read.stopped in
    record {
      choice = read.choice;
      judgement_is = judged unset text h.0 ∙ ap source_read (last_read unset text reading.lines reading.logical reading.state h.1
          ∙ ap (λ u. lines_read u (Ok reading.state) (lines_left (begun reading.lines) (next_number reading.lines) (begun_line reading.logical))) (sym read.choice));
    }

-- a reading that has stopped
pub stopped_is : (unset : Unset) (text : List ℕ) (reading : Reading) (refusal : BlifRefusal) → reading.stopped ≡ Some refusal → IsReading unset text reading
    → OrMemory refusal (IsVerdictOf (judgement unset text) (Err refusal))
stopped_is unset text reading refusal is read =
    or_memory_then refusal _ _ (λ h. subst (λ (j : Result PlainSource BlifRefusal). IsVerdictOf j (Err refusal)) (sym (early_judged unset text refusal h)) refl)
    (stands unset text reading refusal is read)

-- a refusal of the last lines
pub last_is : (unset : Unset) (text : List ℕ) (reading : Reading) (refusal : BlifRefusal) → Going unset text reading
    → OrMemory refusal (lines_read reading.unset (Ok reading.state) (lines_left (begun reading.lines) (next_number reading.lines) (begun_line reading.logical)) ≡ Err refusal)
    → OrMemory refusal (IsVerdictOf (judgement unset text) (Err refusal))
last_is unset text reading refusal g h =
    or_memory_then refusal _ _ (λ k. subst (λ (j : Result PlainSource BlifRefusal). IsVerdictOf j (Err refusal)) (sym (g.judgement_is ∙ ap source_read k)) refl) h

-- the judgement where the last lines are read
pub whole_is : (unset : Unset) (text : List ℕ) (reading : Reading) (state : BlifState) → Going unset text reading
    → lines_read reading.unset (Ok reading.state) (lines_left (begun reading.lines) (next_number reading.lines) (begun_line reading.logical)) ≡ Ok state
    → judgement unset text ≡ whole_source state
whole_is unset text reading state g h = g.judgement_is ∙ ap source_read h
