-- For callers: whole lines that are read one after the other, as the text grows by parts.
use Rattle.std.proofs.Common.{◌≡◌, ℕ, true, false, cond, List, [], ◌∷◌, ◌++◌, take, drop, Result, Ok, Err, refl, ap, subst, ◌∙◌, append_assoc}
use Rattle.std.proofs.lemmas.List.{take-append-drop}
use Rattle.word_scan.specs.declared.lines.Taken.{Taken}
use Rattle.word_scan.specs.Lines.{PlainLines, lines_after, begun, whole_lines, last_line, TakesPart, IsAt}
use Rattle.word_scan.specs.Reading.{unless_refused, read_on, text_read, HasRead}
use Rattle.word_scan.proofs.CallerLemmasLines.{lines_joined}

module _ {S R : Type 0} (read : S → List ℕ → Result S R) where
  pub read_joined : (so_far : Result S R) (xs ys : List (List ℕ)) → read_on read so_far (xs ++ ys) ≡ read_on read (read_on read so_far xs) ys
  read_joined so_far [] ys = refl
  read_joined so_far (x ∷ xs) ys = read_joined (unless_refused read so_far x) xs ys

  pub read_refused : (refusal : R) (xs : List (List ℕ)) → read_on read (Err refusal) xs ≡ Err refusal
  read_refused refusal [] = refl
  read_refused refusal (x ∷ xs) = read_refused refusal xs

  module _ (start : S) where
    -- what a text and more bytes lead to
    pub text_joined : (text more : List ℕ) → text_read read start (text ++ more) ≡ read_on read (text_read read start text) (lines_after (last_line text) more)
    text_joined text more = ap (read_on read (Ok start)) (lines_joined [] text more) ∙ read_joined (Ok start) (whole_lines text) (lines_after (last_line text) more)

    -- a refusal stands, whatever follows
    pub refused_stays : (text more : List ℕ) (refusal : R) → text_read read start text ≡ Err refusal → text_read read start (text ++ more) ≡ Err refusal
    refused_stays text more refusal h =
        text_joined text more ∙ ap (λ (s : Result S R). read_on read s (lines_after (last_line text) more)) h ∙ read_refused refusal (lines_after (last_line text) more)

    -- the lines that a part completes are read from the state so far
    part_read : (text part : List ℕ) (lines : PlainLines) (state : S) (parts : List (List ℕ)) → HasRead read start text lines state → lines_after (begun lines) part ≡ parts
        → text_read read start (text ++ part) ≡ read_on read (Ok state) parts
    part_read text part lines state parts has e =
        text_joined text part ∙ ap (λ (s : Result S R). read_on read s (lines_after (last_line text) part)) has.reads
        ∙ ap (λ (l : List ℕ). read_on read (Ok state) (lines_after l part)) has.at.present ∙ ap (read_on read (Ok state)) e

    -- a part that completes no line
    pub open_step : (text piece line : List ℕ) (old new : PlainLines) (state : S) (taken : Taken) → TakesPart (begun old) piece taken line → taken.whole ≡ false
        → IsAt (text ++ take taken.used piece) new
        → HasRead read start text old state → HasRead read start (text ++ take taken.used piece) new state
    open_step text piece line old new state taken part whole at has = record {
      at = at;
      reads = part_read text (take taken.used piece) old state [] has (part.lines ∙ ap (λ b. cond b (line ∷ []) []) whole);
    }

    whole_read : (text piece line : List ℕ) (old : PlainLines) (state : S) (taken : Taken) → TakesPart (begun old) piece taken line → taken.whole ≡ true
        → HasRead read start text old state → text_read read start (text ++ take taken.used piece) ≡ read state line
    whole_read text piece line old state taken part whole has =
        part_read text (take taken.used piece) old state (line ∷ []) has (part.lines ∙ ap (λ b. cond b (line ∷ []) []) whole)

    -- a part that completes a line, which is read
    pub whole_step : (text piece line : List ℕ) (old new : PlainLines) (state next : S) (taken : Taken) → TakesPart (begun old) piece taken line → taken.whole ≡ true
        → IsAt (text ++ take taken.used piece) new
        → HasRead read start text old state → read state line ≡ Ok next → HasRead read start (text ++ take taken.used piece) new next
    whole_step text piece line old new state next taken part whole at has right = record { at = at; reads = whole_read text piece line old state taken part whole has ∙ right }

    rejoin : (text piece : List ℕ) (used : ℕ) → (text ++ take used piece) ++ drop used piece ≡ text ++ piece
    rejoin text piece used = append_assoc text (take used piece) (drop used piece) ∙ ap (λ (p : List ℕ). text ++ p) (take-append-drop used piece)

    -- a part that completes a line, which is refused
    pub whole_stops : (text piece line : List ℕ) (old : PlainLines) (state : S) (refusal : R) (taken : Taken) → TakesPart (begun old) piece taken line → taken.whole ≡ true
        → HasRead read start text old state → read state line ≡ Err refusal → text_read read start (text ++ piece) ≡ Err refusal
    whole_stops text piece line old state refusal taken part whole has wrong =
        subst (λ (t : List ℕ). text_read read start t ≡ Err refusal) (rejoin text piece taken.used)
        (refused_stays (text ++ take taken.used piece) (drop taken.used piece) refusal (whole_read text piece line old state taken part whole has ∙ wrong))
