-- A text whose verdict is a netlist is that netlist's text and what follows it.
use Rattle.std.proofs.Common.{◌≡◌, ◌<◌, ◌+◌, ◌||◌, ℕ, suc, cond, eqb, Bool, true, false, Option, Some, None, Err, List, [], ◌∷◌, ◌++◌, length, map, take, drop, refl, sym, ap, subst, ◌∙◌}
use Rattle.std.proofs.Common.{append-nil, append_assoc, arith}
use Rattle.std.specs.Prelude.{option_map}
use Rattle.std.specs.Option.{option_or}
use Rattle.std.specs.List.{flat_map}
use Rattle.std.proofs.lemmas.Bool.{eqb-true, true≢false}
use Rattle.std.proofs.lemmas.List.{take-append-drop}
use Rattle.cell_netlist.specs.Netlists.{PlainNetlist}
use Rattle.cell_netlist.specs.Text.{line_of, netlist_words, text_of}
use Rattle.word_scan.specs.Lines.{lines_after, whole_lines, last_line}
use Rattle.word_scan.proofs.CallerLemmasLines.{lines_joined}
use Rattle.netlist_reader.specs.declared.statements.Statement.{Statement}
use Rattle.netlist_reader.specs.declared.statements.Statement.TheVariants as statements
use Rattle.netlist_reader.specs.declared.refusals.NetRefusal.{NetRefusal}
use Rattle.netlist_reader.specs.declared.refusals.NetRefusal.TheVariants as refusals
use Rattle.netlist_reader.specs.Statements.{statement_in}
use Rattle.netlist_reader.specs.Limits.{limit_of}
use Rattle.netlist_reader.specs.Places.{rank, section_of, netlist_in, follows_lines, fits_behind, stands_after, refusal_by, line_refusal, first_refusal, is_end_by, is_end, to_end, has_end}
use Rattle.netlist_reader.specs.Verdicts.{limit, lines_in, too_long, early, after_lines, after_end, judged}
use Rattle.netlist_reader.specs.Laws.{OnlyTextsAreRead}
use Rattle.netlist_reader.proofs.Bools.{and_parts}
use Rattle.netlist_reader.proofs.Texts.{done}
use Rattle.netlist_reader.proofs.WrittenLines.{spaced, line_is}
use Rattle.netlist_reader.proofs.FoundSections.{AreItsLines, its_next, its_end}

-- a line that isn't refused
record IsRight (before : List (List ℕ)) (line : List ℕ) : Type 0 where
  statement : Statement
  says : statement_in line ≡ Some statement
  stands : follows_lines before (section_of statement) ≡ true

right_by : (before : List (List ℕ)) (line : List ℕ) (statement : Statement) (stands : Bool) → statement_in line ≡ Some statement → stands_after before statement ≡ stands
    → cond stands (option_map (λ quantity. refusals.Limit quantity) (limit_of line statement)) (Some (refusals.BadLine (length before + 1))) ≡ None → IsRight before line
right_by before line statement true says e h =
    record { statement = statement; says = says; stands = (and_parts (follows_lines before (section_of statement)) (fits_behind (netlist_in before) statement) e).0 }
right_by before line statement false says e h = absurd cc

right_said : (before : List (List ℕ)) (line : List ℕ) (said : Option Statement) → statement_in line ≡ said → refusal_by before line said ≡ None → IsRight before line
right_said before line None says h = absurd cc
right_said before line (Some statement) says h = right_by before line statement (stands_after before statement) says refl h

both_none : (first rest : Option NetRefusal) → option_or first rest ≡ None → (first ≡ None) × (rest ≡ None)
both_none None rest h = (refl, h)
both_none (Some refusal) rest h = absurd cc

not_end : (statement : Statement) → is_end_by (Some statement) ≡ false → rank (section_of statement) < 8
not_end (statements.Version version) h = omega arith
not_end (statements.Ports inputs outputs) h = omega arith
not_end (statements.Input rail) h = omega arith
not_end (statements.OneCell cell) h = omega arith
not_end (statements.Output rail) h = omega arith
not_end (statements.State state) h = omega arith
not_end (statements.InputName port) h = omega arith
not_end (statements.OutputName port) h = omega arith
not_end statements.End h = absurd cc

is_the_end : (statement : Statement) → is_end_by (Some statement) ≡ true → statement ≡ statements.End
is_the_end (statements.Version version) h = absurd cc
is_the_end (statements.Ports inputs outputs) h = absurd cc
is_the_end (statements.Input rail) h = absurd cc
is_the_end (statements.OneCell cell) h = absurd cc
is_the_end (statements.Output rail) h = absurd cc
is_the_end (statements.State state) h = absurd cc
is_the_end (statements.InputName port) h = absurd cc
is_the_end (statements.OutputName port) h = absurd cc
is_the_end statements.End h = refl

-- lines up to `end` that aren't refused are those of their netlist
abbrev AreAll : List (List ℕ) → Type 0
AreAll lines = lines ≡ map spaced (netlist_words (netlist_in lines))

step_found : (before : List (List ℕ)) (line : List ℕ) (lines : List (List ℕ)) (ends : Bool) → is_end line ≡ ends → AreItsLines before
    → first_refusal before (cond ends (line ∷ []) (line ∷ to_end lines)) ≡ None
    → has_end (cond ends (line ∷ []) (line ∷ to_end lines)) ≡ true
    → (AreItsLines (before ++ line ∷ []) → first_refusal (before ++ line ∷ []) (to_end lines) ≡ None → has_end (to_end lines) ≡ true → AreAll ((before ++ line ∷ []) ++ to_end lines))
    → AreAll (before ++ cond ends (line ∷ []) (line ∷ to_end lines))
step_found before line lines true e are fine ended more =
    let right = right_said before line (statement_in line) refl (both_none (line_refusal before line) None fine).0 in
    its_end line right.statement right.says before are right.stands (is_the_end right.statement (sym (ap is_end_by right.says) ∙ e))
step_found before line lines false e are fine ended more =
    let none = both_none (line_refusal before line) (first_refusal (before ++ line ∷ []) (to_end lines)) fine in
    let right = right_said before line (statement_in line) refl none.0 in
    let still : has_end (to_end lines) ≡ true = sym (ap (λ b. b || has_end (to_end lines)) e) ∙ ended in
    subst (λ (l : List (List ℕ)). AreAll l) (append_assoc before (line ∷ []) (to_end lines))
    (more (its_next line right.statement right.says before are right.stands (not_end right.statement (sym (ap is_end_by right.says) ∙ e))) none.1 still)

lines_found : (before lines : List (List ℕ)) → AreItsLines before → first_refusal before (to_end lines) ≡ None → has_end (to_end lines) ≡ true → AreAll (before ++ to_end lines)
lines_found before [] are fine ended = absurd (true≢false (sym ended))
lines_found before (line ∷ lines) are fine ended =
    step_found before line lines (is_end line) refl are fine ended (λ now rest still. lines_found (before ++ line ∷ []) lines now rest still)

-- the bytes of whole lines
abbrev flat : List (List ℕ) → List ℕ
flat lines = flat_map (λ (l : List ℕ). l ++ 10 ∷ []) lines

-- the first line of bytes, and what is left
record IsFirst (begun bytes line : List ℕ) (lines : List (List ℕ)) : Type 0 where
  word : List ℕ
  rest : List ℕ
  bytes_are : bytes ≡ word ++ 10 ∷ rest
  line_is : line ≡ begun ++ word
  lines_are : lines_after [] rest ≡ lines
  passed : (n : ℕ) → after_lines (suc n) bytes ≡ after_lines n rest

first_by : (begun : List ℕ) (byte : ℕ) (bytes line : List ℕ) (lines : List (List ℕ)) (feed : Bool) → eqb byte 10 ≡ feed
    → cond feed (begun ∷ lines_after [] bytes) (lines_after (begun ++ byte ∷ []) bytes) ≡ line ∷ lines
    → (lines_after (begun ++ byte ∷ []) bytes ≡ line ∷ lines → IsFirst (begun ++ byte ∷ []) bytes line lines) → IsFirst begun (byte ∷ bytes) line lines
first_by begun byte bytes line lines true e h more =
    let line_is : begun ≡ line = cc in
    let lines_are : lines_after [] bytes ≡ lines = cc in
    record {
      word = [];
      rest = bytes;
      bytes_are = ap (λ b. b ∷ bytes) (eqb-true _ _ e);
      line_is = sym line_is ∙ sym (append-nil begun);
      lines_are = lines_are;
      passed = λ n. rw e refl;
    }
first_by begun byte bytes line lines false e h more =
    let m = more h in
    record {
      word = byte ∷ m.word;
      rest = m.rest;
      bytes_are = ap (λ (l : List ℕ). byte ∷ l) m.bytes_are;
      line_is = m.line_is ∙ append_assoc begun (byte ∷ []) m.word;
      lines_are = m.lines_are;
      passed = λ n. rw e (m.passed n);
    }

first_of : (begun bytes line : List ℕ) (lines : List (List ℕ)) → lines_after begun bytes ≡ line ∷ lines → IsFirst begun bytes line lines
first_of begun [] line lines h = absurd cc
first_of begun (byte ∷ bytes) line lines h = first_by begun byte bytes line lines (eqb byte 10) refl h (first_of (begun ++ byte ∷ []) bytes line lines)

text_cut : (lines more : List (List ℕ)) (text : List ℕ) → whole_lines text ≡ lines ++ more → text ≡ flat lines ++ after_lines (length lines) text
text_cut [] more text h = refl
text_cut (line ∷ lines) more text h =
    let first = first_of [] text line (lines ++ more) h in
    let left : List ℕ = after_lines (length lines) first.rest in
    first.bytes_are ∙ ap (λ (r : List ℕ). first.word ++ 10 ∷ r) (text_cut lines more first.rest first.lines_are) ∙ ap (λ (w : List ℕ). w ++ 10 ∷ (flat lines ++ left)) (sym first.line_is)
    ∙ sym (append_assoc line (10 ∷ []) (flat lines ++ left)) ∙ sym (append_assoc (line ++ 10 ∷ []) (flat lines) left)
    ∙ ap (λ (r : List ℕ). flat (line ∷ lines) ++ r) (sym (first.passed (length lines)))

-- the lines up to `end` come first
prefix_by : (line : List ℕ) (lines : List (List ℕ)) (ends : Bool) → (more : List (List ℕ)) × (lines ≡ to_end lines ++ more)
    → (more : List (List ℕ)) × (line ∷ lines ≡ cond ends (line ∷ []) (line ∷ to_end lines) ++ more)
prefix_by line lines true rest = (lines, refl)
prefix_by line lines false rest = (rest.0, ap (λ (l : List (List ℕ)). line ∷ l) rest.1)

end_prefix : (lines : List (List ℕ)) → (more : List (List ℕ)) × (lines ≡ to_end lines ++ more)
end_prefix [] = ([], refl)
end_prefix (line ∷ lines) = prefix_by line lines (is_end line) (end_prefix lines)

lines_prefix : (text : List ℕ) → (more : List (List ℕ)) × (whole_lines text ≡ lines_in text ++ more)
lines_prefix text =
    let front : List ℕ = take limit text in
    let back : List ℕ = drop limit text in
    let prefix = end_prefix (whole_lines front) in
    let later : List (List ℕ) = lines_after (last_line front) back in (
      prefix.0 ++ later,
      ap whole_lines (sym (take-append-drop limit text)) ∙ lines_joined [] front back ∙ ap (λ (l : List (List ℕ)). l ++ later) prefix.1 ∙ append_assoc (lines_in text) prefix.0 later,
    )

flat_lines : (lines : List (List (List ℕ))) → flat (map spaced lines) ≡ flat_map line_of lines
flat_lines [] = refl
flat_lines (words ∷ lines) = rw (line_is words, flat_lines lines) refl

done_same : (found other : PlainNetlist × List ℕ) → done found ≡ done other → found ≡ other
done_same found other e = cc

module _ (text : List ℕ) (net : PlainNetlist) (rest : List ℕ) where
  found_by : (b : Bool) → has_end (lines_in text) ≡ b → first_refusal [] (lines_in text) ≡ None → cond b (done (netlist_in (lines_in text), after_end text)) (Err refusals.Truncated) ≡ done (net, rest)
      → text ≡ text_of net ++ rest
  found_by true ended fine h =
      let same = done_same (netlist_in (lines_in text), after_end text) (net, rest) h in
      let net_is : netlist_in (lines_in text) ≡ net = ap (λ (found : PlainNetlist × List ℕ). found.0) same in
      let rest_is : after_end text ≡ rest = ap (λ (found : PlainNetlist × List ℕ). found.1) same in
      let all : lines_in text ≡ map spaced (netlist_words (netlist_in (lines_in text))) = lines_found [] (whole_lines (take limit text)) tt fine ended in
      let prefix = lines_prefix text in
      let left : after_end text ≡ after_lines (length (lines_in text)) text = ap (λ b. cond b (after_lines (length (lines_in text)) text) []) ended in
      text_cut (lines_in text) prefix.0 text prefix.1
      ∙ ap (λ (r : List ℕ). flat (lines_in text) ++ r) (sym left ∙ rest_is)
      ∙ ap (λ (l : List ℕ). l ++ rest) (ap flat all ∙ flat_lines (netlist_words (netlist_in (lines_in text))) ∙ ap text_of net_is)
  found_by false ended fine h = absurd cc

  early_by : (shown : Option NetRefusal) → early text ≡ shown → judged shown text ≡ done (net, rest) → text ≡ text_of net ++ rest
  early_by (Some refusal) e h = absurd cc
  early_by None e h = found_by (has_end (lines_in text)) refl (both_none (first_refusal [] (lines_in text)) (too_long text) e).0 h

pub only_texts_are_read : OnlyTextsAreRead
only_texts_are_read text net rest h = early_by text net rest (early text) refl h
