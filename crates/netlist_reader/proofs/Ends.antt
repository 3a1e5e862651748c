-- A text that has ended, and one that has not.
use Rattle.std.proofs.Common.{◌≡◌, ℕ, ◌≤◌, eqb, cond, Bool, true, false, List, [], ◌∷◌, ◌++◌, length, Option, None, Err, refl, sym, ap, ◌∙◌, arith}
use Rattle.std.proofs.lemmas.List.{length-append}
use Rattle.cell_netlist.specs.Netlists.{PlainNetlist}
use Rattle.word_scan.specs.Lines.{PlainLines, begun_after, lines_after, whole_lines, last_line}
use Rattle.word_scan.specs.Reading.{HasRead}
use Rattle.word_scan.proofs.CallerLemmasLines.{begun_all}
use Rattle.netlist_reader.specs.declared.built.Built.{Built}
use Rattle.netlist_reader.specs.declared.refusals.NetRefusal.{NetRefusal}
use Rattle.netlist_reader.specs.declared.refusals.NetRefusal.TheVariants as refusals
use Rattle.netlist_reader.specs.Places.{netlist_in, has_end, inputs_of}
use Rattle.netlist_reader.specs.Building.{has_ended, line_read, start}
use Rattle.netlist_reader.specs.Verdicts.{limit, lines_in, early, after_lines, after_end, judged, net_verdict}
use Rattle.netlist_reader.specs.Readings.{IsFine}
use Rattle.netlist_reader.proofs.Steps.{IsBuilt}
use Rattle.netlist_reader.proofs.Texts.{done, read_within, built_by, none_going}

-- nothing stands after the whole lines of a text that ends with the last one
end_unended : (line xs : List ℕ) (byte : ℕ) (lines : List (List ℕ)) → lines_after (line ++ byte ∷ []) xs ≡ lines → eqb byte 10 ≡ false → begun_after (line ++ byte ∷ []) xs ≡ []
    → after_lines (length lines) xs ≡ [] → after_lines (length lines) (byte ∷ xs) ≡ []
end_unended line xs byte [] e b h so =
    let no : (line ++ byte ∷ []) ++ xs ≡ [] = sym (begun_all (line ++ byte ∷ []) xs e) ∙ h in
    absurd (omega (arith, ap length no, length-append (line ++ byte ∷ []) xs, length-append line (byte ∷ [])))
end_unended line xs byte (first ∷ lines) e b h so = rw b so

after_byte : (line xs : List ℕ) (byte : ℕ) (b : Bool) → eqb byte 10 ≡ b → (begun_after [] xs ≡ [] → after_lines (length (lines_after [] xs)) xs ≡ [])
    → (begun_after (line ++ byte ∷ []) xs ≡ [] → after_lines (length (lines_after (line ++ byte ∷ []) xs)) xs ≡ [])
    → cond b (begun_after [] xs) (begun_after (line ++ byte ∷ []) xs) ≡ [] → after_lines (length (cond b (line ∷ lines_after [] xs) (lines_after (line ++ byte ∷ []) xs))) (byte ∷ xs) ≡ []
after_byte line xs byte true e fed unfed h = rw e (fed h)
after_byte line xs byte false e fed unfed h = end_unended line xs byte (lines_after (line ++ byte ∷ []) xs) refl e h (unfed h)

after_all : (line xs : List ℕ) → begun_after line xs ≡ [] → after_lines (length (lines_after line xs)) xs ≡ []
after_all line [] h = refl
after_all line (x ∷ xs) h = after_byte line xs x (eqb x 10) refl (after_all [] xs) (after_all (line ++ x ∷ []) xs) h

module _ (text : List ℕ) (lines : PlainLines) (built : Built) (short : length text ≤ limit) (has : HasRead line_read start text lines built) where
  is : IsBuilt (lines_in text) built
  is = (built_by text built (read_within text lines built short has)).1

  pub ended_is : has_ended built ≡ has_end (lines_in text)
  ended_is = is.ended

  pub inputs_are : built.inputs ≡ inputs_of (lines_in text)
  inputs_are = is.inputs

  -- nothing stands after the `end` line
  pub nothing_after : IsFine lines built → after_end text ≡ []
  nothing_after fine = by_end (has_ended built) refl
    where
      by_end : (b : Bool) → has_ended built ≡ b → after_end text ≡ []
      by_end true ended =
          let nothing : last_line text ≡ [] = has.at.present ∙ fine.closed ended in
          let count : length (lines_in text) ≡ length (whole_lines text) = omega (arith, has.at.count, fine.count, is.count) in
          rw (sym is.ended ∙ ended) (ap (λ n. after_lines n text) count ∙ after_all [] text nothing)
      by_end false unended = rw (sym is.ended ∙ unended) refl

  nothing_early : early text ≡ None
  nothing_early = none_going text built short (read_within text lines built short has)

  judged_by : (b : Bool) → has_end (lines_in text) ≡ b → net_verdict text ≡ cond b (done (netlist_in (lines_in text), after_end text)) (Err refusals.Truncated)
  judged_by b e = ap (λ (o : Option NetRefusal). judged o text) nothing_early ∙ ap (λ b. cond b (done (netlist_in (lines_in text), after_end text)) (Err refusals.Truncated)) e

  pub ended_verdict : IsFine lines built → has_ended built ≡ true → net_verdict text ≡ done (built.net, [])
  ended_verdict fine ended =
      judged_by true (sym is.ended ∙ ended) ∙ ap (λ (l : List ℕ). done (netlist_in (lines_in text), l)) (nothing_after fine) ∙ ap (λ (n : PlainNetlist). done (n, [])) (sym is.net)

  pub unended_verdict : has_ended built ≡ false → net_verdict text ≡ Err refusals.Truncated
  unended_verdict unended = judged_by false (sym is.ended ∙ unended)
