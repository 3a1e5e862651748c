-- For callers: what stands after the `end` line of a text, and what bytes after it change.
use Rattle.std.proofs.Common.{◌≡◌, ◌<◌, ◌≤◌, ℕ, zero, suc, ◌+◌, ◌-◌, eqb, cond, Bool, true, false, List, [], ◌∷◌, ◌++◌, length, take, drop, Option, Some, None, refl, sym, ap, ◌∙◌, arith, zero-le}
use Rattle.std.specs.Option.{option_or}
use Rattle.std.proofs.lemmas.Bool.{true≢false, lt-ltb}
use Rattle.std.proofs.lemmas.List.{length-append, length-take, take-append-drop, take_all}
use Rattle.pulse_ids.specs.declared.quantities.Quantity.TheVariants.{NetBytes}
use Rattle.word_scan.specs.Lines.{lines_after, whole_lines, last_line}
use Rattle.word_scan.proofs.CallerLemmasLines.{lines_joined}
use Rattle.word_scan.proofs.CallerLemmasPieces.{take_joined}
use Rattle.netlist_reader.specs.declared.refusals.NetRefusal.{NetRefusal}
use Rattle.netlist_reader.specs.declared.refusals.NetRefusal.TheVariants.{Limit}
use Rattle.netlist_reader.specs.Places.{first_refusal, is_end, to_end, has_end}
use Rattle.netlist_reader.specs.Verdicts.{limit, lines_in, too_long, early, after_lines, after_end}

-- lines after `end` change nothing of those up to it
to_end_joined : (lines more : List (List ℕ)) → has_end (to_end lines) ≡ true → to_end (lines ++ more) ≡ to_end lines
to_end_joined [] more h = absurd (true≢false (sym h))
to_end_joined (line ∷ lines) more h = go (is_end line) refl h (to_end_joined lines more)
  where
    go : (b : Bool) → is_end line ≡ b → has_end (cond b (line ∷ []) (line ∷ to_end lines)) ≡ true
        → (has_end (to_end lines) ≡ true → to_end (lines ++ more) ≡ to_end lines)
        → cond b (line ∷ []) (line ∷ to_end (lines ++ more)) ≡ cond b (line ∷ []) (line ∷ to_end lines)
    go true e h next = refl
    go false e h next = ap (λ l. line ∷ l) (next (rw e at h))

to_end_few : (lines : List (List ℕ)) → length (to_end lines) ≤ length lines
to_end_few [] = zero-le
to_end_few (line ∷ lines) = go (is_end line) (to_end_few lines)
  where
    go : (b : Bool) → length (to_end lines) ≤ length lines → length (cond b (line ∷ []) (line ∷ to_end lines)) ≤ length (line ∷ lines)
    go true few = omega arith
    go false few = omega (arith, few)

-- what stands after so many lines, where there are so many
after_joined : (n : ℕ) (line text more : List ℕ) → n ≤ length (lines_after line text) → after_lines n (text ++ more) ≡ after_lines n text ++ more
after_joined zero line text more h = refl
after_joined (suc n) line [] more h = absurd (omega (arith, h))
after_joined (suc n) line (byte ∷ text) more h = go (eqb byte 10) h (after_joined n [] text more) (after_joined (suc n) (line ++ byte ∷ []) text more)
  where
    go : (b : Bool) → suc n ≤ length (cond b (line ∷ lines_after [] text) (lines_after (line ++ byte ∷ []) text))
        → (n ≤ length (lines_after [] text) → after_lines n (text ++ more) ≡ after_lines n text ++ more)
        → (suc n ≤ length (lines_after (line ++ byte ∷ []) text) → after_lines (suc n) (text ++ more) ≡ after_lines (suc n) text ++ more)
        → cond b (after_lines n (text ++ more)) (after_lines (suc n) (text ++ more)) ≡ cond b (after_lines n text) (after_lines (suc n) text) ++ more
    go true h fed unfed = fed (omega (arith, h))
    go false h fed unfed = unfed h

-- so many lines are all, where nothing stands after them
after_none : (n : ℕ) (line text : List ℕ) → n ≤ length (lines_after line text) → after_lines n text ≡ [] → length (lines_after line text) ≡ n
after_none zero line [] h e = refl
after_none zero line (byte ∷ text) h e = absurd cc
after_none (suc n) line [] h e = absurd (omega (arith, h))
after_none (suc n) line (byte ∷ text) h e = go (eqb byte 10) h e (after_none n [] text) (after_none (suc n) (line ++ byte ∷ []) text)
  where
    go : (b : Bool) → suc n ≤ length (cond b (line ∷ lines_after [] text) (lines_after (line ++ byte ∷ []) text)) → cond b (after_lines n text) (after_lines (suc n) text) ≡ []
        → (n ≤ length (lines_after [] text) → after_lines n text ≡ [] → length (lines_after [] text) ≡ n)
        → (suc n ≤ length (lines_after (line ++ byte ∷ []) text) → after_lines (suc n) text ≡ [] → length (lines_after (line ++ byte ∷ []) text) ≡ suc n)
        → length (cond b (line ∷ lines_after [] text) (lines_after (line ++ byte ∷ []) text)) ≡ suc n
    go true h e fed unfed = ap suc (fed (omega (arith, h)) e)
    go false h e fed unfed = unfed h e

lines_few : (text : List ℕ) → length (lines_in text) ≤ length (whole_lines text)
lines_few text =
    let rest = lines_after (last_line (take limit text)) (drop limit text) in
    let whole : whole_lines text ≡ whole_lines (take limit text) ++ rest =
    ap whole_lines (sym (take-append-drop limit text)) ∙ lines_joined [] (take limit text) (drop limit text) in
    omega (arith, to_end_few (whole_lines (take limit text)), ap length whole, length-append (whole_lines (take limit text)) rest)

-- bytes after the `end` line change nothing of the lines up to it
pub lines_joined_in : (text more : List ℕ) → has_end (lines_in text) ≡ true → lines_in (text ++ more) ≡ lines_in text
lines_joined_in text more ended =
    let left : List ℕ = take (limit - length text) more in
    ap (λ l. to_end (whole_lines l)) (take_joined limit text more) ∙ ap to_end (lines_joined [] (take limit text) left)
    ∙ to_end_joined (whole_lines (take limit text)) (lines_after (last_line (take limit text)) left) ended

-- and stand after it
pub after_end_joined : (text more : List ℕ) → has_end (lines_in text) ≡ true → after_end (text ++ more) ≡ after_end text ++ more
after_end_joined text more ended =
    let same = lines_joined_in text more ended in
    rw (same, ended) (after_joined (length (lines_in text)) [] text more (lines_few text))

-- where nothing stands after the `end` line, the lines up to it are all
pub lines_of_ended : (text : List ℕ) → has_end (lines_in text) ≡ true → after_end text ≡ [] → length (whole_lines text) ≡ length (lines_in text)
lines_of_ended text ended none = after_none (length (lines_in text)) [] text (lines_few text) (rw ended at none)

-- where something stands after it, there is one
pub ended_by_rest : (text rest : List ℕ) (byte : ℕ) → after_end text ≡ byte ∷ rest → has_end (lines_in text) ≡ true
ended_by_rest text rest byte e = go (has_end (lines_in text)) refl e
  where
    go : (b : Bool) → has_end (lines_in text) ≡ b → cond b (after_lines (length (lines_in text)) text) [] ≡ byte ∷ rest → has_end (lines_in text) ≡ true
    go true d e = d
    go false d e = absurd cc

quiet_long : (shown : Option NetRefusal) (refusal : NetRefusal) → option_or shown (Some refusal) ≡ None → ⊥
quiet_long None refusal h = cc
quiet_long (Some other) refusal h = cc

-- something stands after it where a text of more than the greatest number of bytes shows no refusal
pub long_has_rest : (text : List ℕ) → limit < length text → early text ≡ None → after_end text ≡ [] → ⊥
long_has_rest text long quiet none = go (has_end (lines_in text)) refl
  where
    first : List ℕ
    first = take limit text

    rest : List ℕ
    rest = drop limit text

    same : lines_in first ≡ lines_in text
    same = ap (λ l. to_end (whole_lines l)) (take_all limit first (omega (arith, length-take limit text)))

    sums : length first + length rest ≡ length text
    sums = sym (length-append first rest) ∙ ap length (take-append-drop limit text)

    go : (b : Bool) → has_end (lines_in text) ≡ b → ⊥
    go true ended =
        let joined : after_end text ≡ after_end first ++ rest =
        ap after_end (sym (take-append-drop limit text)) ∙ after_end_joined first rest (ap has_end same ∙ ended) in
        omega (arith, sums, length-take limit text, long, ap length (sym none ∙ joined), length-append (after_end first) rest)
    go false unended = quiet_long (first_refusal [] (lines_in text)) (Limit NetBytes) (rw (unended, lt-ltb _ _ long) at quiet)

-- a text that has ended without a refusal shows none, whatever follows it
pub quiet_ended : (text more : List ℕ) → has_end (lines_in text) ≡ true → early text ≡ None → early (text ++ more) ≡ None
quiet_ended text more ended quiet =
    let same = lines_joined_in text more ended in
    by_lines (lines_in text) (lines_in (text ++ more)) _ _ same ended quiet
  where
    by_lines : (lines others : List (List ℕ)) (long other : Option NetRefusal) → others ≡ lines → has_end lines ≡ true
        → option_or (first_refusal [] lines) (cond (has_end lines) None long) ≡ None → option_or (first_refusal [] others) (cond (has_end others) None other) ≡ None
    by_lines lines others long other e h q = rw (e, h) (rw h at q)
