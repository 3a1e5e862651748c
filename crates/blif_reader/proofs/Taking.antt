-- One more part of a text: what it completes is read.
use Rattle.std.proofs.Common.{◌≡◌, ℕ, ◌+◌, List, [], ◌∷◌, ◌++◌, length, take, drop, Option, None, Result, Ok, Err, refl, sym, ap, subst, ◌∙◌, append_assoc, arith}
use Rattle.std.proofs.lemmas.List.{take-append-drop, append-nil}
use Rattle.source_machine.specs.declared.unset.Unset.{Unset}
use Rattle.word_scan.specs.Lines.{PlainLines, lines_after, whole_lines, last_line, begun, next_number, IsAt}
use Rattle.word_scan.specs.Logical.{LogicalLine, PlainLogical, logical_after, logical_begun, begun_line}
use Rattle.word_scan.proofs.CallerLemmasLines.{lines_joined}
use Rattle.word_scan.proofs.CallerLemmasLogical.{begun_on, logical_on}
use Rattle.blif_reader.specs.declared.refusals.BlifRefusal.{BlifRefusal}
use Rattle.blif_reader.specs.declared.refusals.BlifRefusal.TheVariants as refusals
use Rattle.blif_reader.specs.States.{BlifState, nothing_read}
use Rattle.blif_reader.specs.Sources.{logical_lines, unless_refused, lines_read, text_read}
use Rattle.blif_reader.specs.Readings.{HasRead, OrMemory}

-- want of memory stands for anything
pub or_memory_then : (refusal : BlifRefusal) (P Q : Type 0) → (P → Q) → OrMemory refusal P → OrMemory refusal Q
or_memory_then (refusals.Fault fault) P Q f h = f h
or_memory_then (refusals.Limit quantity) P Q f h = f h
or_memory_then refusals.NoMemory P Q f h = tt

module _ (unset : Unset) where
  pub read_joined : (so_far : Result BlifState BlifRefusal) (xs ys : List LogicalLine) → lines_read unset so_far (xs ++ ys) ≡ lines_read unset (lines_read unset so_far xs) ys
  read_joined so_far [] ys = refl
  read_joined so_far (x ∷ xs) ys = read_joined (unless_refused unset so_far x) xs ys

  pub read_refused : (refusal : BlifRefusal) (xs : List LogicalLine) → lines_read unset (Err refusal) xs ≡ Err refusal
  read_refused refusal [] = refl
  read_refused refusal (x ∷ xs) = read_refused refusal xs

  -- the logical lines that physical lines complete after those of a text
  pub lines_more : (text : List ℕ) (lines : List (List ℕ))
      → lines_read unset (Ok nothing_read) (logical_after None 1 (whole_lines text ++ lines))
      ≡ lines_read unset (text_read unset text) (logical_after (logical_begun None 1 (whole_lines text)) (1 + length (whole_lines text)) lines)
  lines_more text lines =
      ap (lines_read unset (Ok nothing_read)) (logical_on None 1 (whole_lines text) lines)
      ∙ read_joined (Ok nothing_read) (logical_lines text) (logical_after (logical_begun None 1 (whole_lines text)) (1 + length (whole_lines text)) lines)

  -- a refusal stands, whatever follows
  pub refused_stays : (text more : List ℕ) (refusal : BlifRefusal) → text_read unset text ≡ Err refusal → text_read unset (text ++ more) ≡ Err refusal
  refused_stays text more refusal h =
      let lines : List (List ℕ) = lines_after (last_line text) more in
      let rest : List LogicalLine = logical_after (logical_begun None 1 (whole_lines text)) (1 + length (whole_lines text)) lines in
      ap (λ (ls : List (List ℕ)). lines_read unset (Ok nothing_read) (logical_after None 1 ls)) (lines_joined [] text more) ∙ lines_more text lines
      ∙ ap (λ (s : Result BlifState BlifRefusal). lines_read unset s rest) h ∙ read_refused refusal rest

  module _ (text : List ℕ) (old : PlainLines) (logical : PlainLogical) (state : BlifState) (has : HasRead unset text old logical state) where
    -- the physical lines that a part completes
    lines_are : (part : List ℕ) (lines : List (List ℕ)) → lines_after (begun old) part ≡ lines → whole_lines (text ++ part) ≡ whole_lines text ++ lines
    lines_are part lines e =
        lines_joined [] text part ∙ ap (λ (l : List ℕ). whole_lines text ++ lines_after l part) has.at.present ∙ ap (λ (ls : List (List ℕ)). whole_lines text ++ ls) e

    number_is : 1 + length (whole_lines text) ≡ next_number old
    number_is = omega (arith, has.at.count)

    -- what further physical lines lead to
    pub lines_on : (lines : List (List ℕ)) → lines_read unset (Ok nothing_read) (logical_after None 1 (whole_lines text ++ lines))
        ≡ lines_read unset (Ok state) (logical_after (begun_line logical) (next_number old) lines)
    lines_on lines =
        lines_more text lines ∙ ap (λ (s : Result BlifState BlifRefusal). lines_read unset s (logical_after (logical_begun None 1 (whole_lines text)) (1 + length (whole_lines text)) lines)) has.reads
        ∙ ap (λ (b : Option LogicalLine). lines_read unset (Ok state) (logical_after b (1 + length (whole_lines text)) lines)) has.begun
        ∙ ap (λ n. lines_read unset (Ok state) (logical_after (begun_line logical) n lines)) number_is

    pub begun_lines : (lines : List (List ℕ)) → logical_begun None 1 (whole_lines text ++ lines) ≡ logical_begun (begun_line logical) (next_number old) lines
    begun_lines lines =
        begun_on None 1 (whole_lines text) lines ∙ ap (λ (b : Option LogicalLine). logical_begun b (1 + length (whole_lines text)) lines) has.begun
        ∙ ap (λ n. logical_begun (begun_line logical) n lines) number_is

    -- a part that completes no line
    pub open_step : (part : List ℕ) (new : PlainLines) → lines_after (begun old) part ≡ [] → IsAt (text ++ part) new → HasRead unset (text ++ part) new logical state
    open_step part new none at =
        let same : whole_lines (text ++ part) ≡ whole_lines text = lines_are part [] none ∙ append-nil (whole_lines text) in
        record {
          at = at;
          begun = ap (logical_begun None 1) same ∙ has.begun;
          reads = ap (λ (ls : List (List ℕ)). lines_read unset (Ok nothing_read) (logical_after None 1 ls)) same ∙ has.reads;
        }

    -- a part that completes a line, which is read
    pub line_step : (part line : List ℕ) (number : ℕ) (new : PlainLines) (logical2 : PlainLogical) (state2 : BlifState) → lines_after (begun old) part ≡ line ∷ [] → number ≡ next_number old
        → IsAt (text ++ part) new
        → logical_begun (begun_line logical) number (line ∷ []) ≡ begun_line logical2
        → lines_read unset (Ok state) (logical_after (begun_line logical) number (line ∷ [])) ≡ Ok state2
        → HasRead unset (text ++ part) new logical2 state2
    line_step part line number new logical2 state2 one is at begun reads =
        let same = lines_are part (line ∷ []) one in
        record {
          at = at;
          begun = ap (logical_begun None 1) same ∙ begun_lines (line ∷ []) ∙ ap (λ n. logical_begun (begun_line logical) n (line ∷ [])) (sym is) ∙ begun;
          reads = ap (λ (ls : List (List ℕ)). lines_read unset (Ok nothing_read) (logical_after None 1 ls)) same ∙ lines_on (line ∷ [])
              ∙ ap (λ n. lines_read unset (Ok state) (logical_after (begun_line logical) n (line ∷ []))) (sym is) ∙ reads;
        }

    -- or refused
    pub line_stops : (piece line : List ℕ) (used number : ℕ) (refusal : BlifRefusal) → lines_after (begun old) (take used piece) ≡ line ∷ [] → number ≡ next_number old
        → lines_read unset (Ok state) (logical_after (begun_line logical) number (line ∷ [])) ≡ Err refusal
        → text_read unset (text ++ piece) ≡ Err refusal
    line_stops piece line used number refusal one is reads =
        let same = lines_are (take used piece) (line ∷ []) one in
        let refused : text_read unset (text ++ take used piece) ≡ Err refusal =
        ap (λ (ls : List (List ℕ)). lines_read unset (Ok nothing_read) (logical_after None 1 ls)) same ∙ lines_on (line ∷ [])
        ∙ ap (λ n. lines_read unset (Ok state) (logical_after (begun_line logical) n (line ∷ []))) (sym is) ∙ reads in
        subst (λ (t : List ℕ). text_read unset t ≡ Err refusal) (append_assoc text (take used piece) (drop used piece) ∙ ap (λ (p : List ℕ). text ++ p) (take-append-drop used piece))
        (refused_stays (text ++ take used piece) (drop used piece) refusal refused)
