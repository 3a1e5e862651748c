-- Where a refusal stopped the reading of a text, it stops that of the text with more bytes.
use Rattle.std.proofs.Common.{◌≡◌, ℕ, ◌<◌, ◌-◌, cond, ltb, Bool, true, false, List, [], ◌∷◌, ◌++◌, length, take, Option, Some, None, refl, sym, ap, ◌∙◌, append_assoc, arith}
use Rattle.std.proofs.lemmas.Bool.{lt-ltb, ltb-true}
use Rattle.std.proofs.lemmas.List.{take-append-le, length-append}
use Rattle.pulse_ids.specs.declared.quantities.Quantity.TheVariants.{NetBytes}
use Rattle.word_scan.specs.Lines.{lines_after, last_line, whole_lines}
use Rattle.word_scan.proofs.CallerLemmasLines.{lines_joined}
use Rattle.word_scan.proofs.CallerLemmasPieces.{take_joined}
use Rattle.netlist_reader.specs.declared.refusals.NetRefusal.{NetRefusal}
use Rattle.netlist_reader.specs.declared.refusals.NetRefusal.TheVariants as refusals
use Rattle.netlist_reader.specs.Places.{to_end, has_end, inputs_of}
use Rattle.netlist_reader.specs.Building.{OrMemory}
use Rattle.netlist_reader.specs.Verdicts.{limit, lines_in, too_long}
use Rattle.netlist_reader.specs.Readings.{RefusedBehind, looked_at, StopsAt}
use Rattle.netlist_reader.proofs.Stopping.{to_end_grown}

-- the lines of a text with more bytes
lines_grown : (text more : List ℕ) → (extra : List (List ℕ)) × (lines_in (text ++ more) ≡ lines_in text ++ extra)
lines_grown text more =
    let first : List ℕ = take limit text in
    let rest : List ℕ = take (limit - length text) more in
    let grown = to_end_grown (whole_lines first) (lines_after (last_line first) rest) in
    (grown.0, ap (λ (t : List ℕ). to_end (whole_lines t)) (take_joined limit text more) ∙ ap to_end (lines_joined [] first rest) ∙ grown.1)

-- a text that is too long has more bytes than the limit
long_by : (refusal : NetRefusal) (ended long : Bool) → cond ended None (cond long (Some (refusals.Limit NetBytes)) None) ≡ Some refusal → long ≡ true
long_by refusal true long h = absurd cc
long_by refusal false true h = refl
long_by refusal false false h = absurd cc

is_long : (text : List ℕ) (refusal : NetRefusal) → too_long text ≡ Some refusal → limit < length text
is_long text refusal h = ltb-true _ _ (long_by refusal (has_end (lines_in text)) (ltb limit (length text)) h)

lines_stay : (text more : List ℕ) → limit < length text → lines_in (text ++ more) ≡ lines_in text
lines_stay text more long = ap (λ (t : List ℕ). to_end (whole_lines t)) (take-append-le limit text more (omega (arith, long)))

long_stays : (text more : List ℕ) (refusal : NetRefusal) → too_long text ≡ Some refusal → too_long (text ++ more) ≡ Some refusal
long_stays text more refusal h =
    let long = is_long text refusal h in
    let before : ltb limit (length text) ≡ true = lt-ltb _ _ long in
    let now : ltb limit (length (text ++ more)) ≡ true = lt-ltb _ _ (omega (arith, long, length-append text more)) in
    ap (λ (lines : List (List ℕ)). cond (has_end lines) None (cond (ltb limit (length (text ++ more))) (Some (refusals.Limit NetBytes)) None)) (lines_stay text more long)
    ∙ ap (λ b. cond (has_end (lines_in text)) None (cond b (Some (refusals.Limit NetBytes)) None)) (now ∙ sym before) ∙ h

-- the lines that were looked at stay
looked_same : (refusal : NetRefusal) (before lines extra : List (List ℕ)) (line : List ℕ) → looked_at refusal before (line ∷ lines) ≡ looked_at refusal before (line ∷ lines ++ extra)
looked_same (refusals.BadLine number) before lines extra line = refl
looked_same refusals.Truncated before lines extra line = refl
looked_same (refusals.Limit quantity) before lines extra line = refl
looked_same refusals.NoMemory before lines extra line = refl

module _ (text more : List ℕ) (count : ℕ) (inputs : Option ℕ) where
  by_length : (refusal : NetRefusal) (stops : StopsAt text refusal count inputs) → stops.after ≡ [] → too_long text ≡ Some refusal
      → OrMemory refusal (RefusedBehind (text ++ more) stops.before [] refusal) → StopsAt (text ++ more) refusal count inputs
  by_length refusal stops none long now = record {
    before = stops.before;
    after = [];
    lines_are = lines_stay text more (is_long text refusal long) ∙ stops.lines_are ∙ ap (λ (l : List (List ℕ)). stops.before ++ l) none;
    accepted = stops.accepted;
    counted = stops.counted;
    refused = now;
    known = stops.known ∙ ap (λ (l : List (List ℕ)). inputs_of (looked_at refusal stops.before l)) none;
  }

  by_line : (refusal : NetRefusal) (stops : StopsAt text refusal count inputs) (line : List ℕ) (lines : List (List ℕ)) → stops.after ≡ line ∷ lines
      → OrMemory refusal (RefusedBehind (text ++ more) stops.before (line ∷ lines) refusal) → StopsAt (text ++ more) refusal count inputs
  by_line refusal stops line lines some now =
      let grown = lines_grown text more in
      record {
        before = stops.before;
        after = line ∷ lines ++ grown.0;
        lines_are =
            grown.1 ∙ ap (λ (l : List (List ℕ)). l ++ grown.0) (stops.lines_are ∙ ap (λ (l : List (List ℕ)). stops.before ++ l) some)
            ∙ append_assoc stops.before (line ∷ lines) grown.0;
        accepted = stops.accepted;
        counted = stops.counted;
        refused = now;
        known =
            stops.known ∙ ap (λ (l : List (List ℕ)). inputs_of (looked_at refusal stops.before l)) some
            ∙ ap inputs_of (looked_same refusal stops.before lines grown.0 line);
      }

  -- a refusal that the bytes give
  of_bytes : (refusal : NetRefusal) (stops : StopsAt text refusal count inputs) (after : List (List ℕ)) → stops.after ≡ after → RefusedBehind text stops.before after refusal
      → ((lines : List (List ℕ)) → RefusedBehind (text ++ more) stops.before lines refusal → OrMemory refusal (RefusedBehind (text ++ more) stops.before lines refusal))
      → StopsAt (text ++ more) refusal count inputs
  of_bytes refusal stops [] e wrong fact = by_length refusal stops e wrong (fact [] (long_stays text more refusal wrong))
  of_bytes refusal stops (line ∷ lines) e wrong fact = by_line refusal stops line lines e (fact (line ∷ lines) wrong)

  for_memory : (stops : StopsAt text refusals.NoMemory count inputs) → StopsAt (text ++ more) refusals.NoMemory count inputs
  for_memory stops =
      let grown = lines_grown text more in
      record {
        before = stops.before;
        after = stops.after ++ grown.0;
        lines_are = grown.1 ∙ ap (λ (l : List (List ℕ)). l ++ grown.0) stops.lines_are ∙ append_assoc stops.before stops.after grown.0;
        accepted = stops.accepted;
        counted = stops.counted;
        refused = tt;
        known = stops.known;
      }

  pub stops_stays : (refusal : NetRefusal) → StopsAt text refusal count inputs → StopsAt (text ++ more) refusal count inputs
  stops_stays (refusals.BadLine line) stops = of_bytes (refusals.BadLine line) stops stops.after refl stops.refused (λ lines wrong. wrong)
  stops_stays refusals.Truncated stops = of_bytes refusals.Truncated stops stops.after refl stops.refused (λ lines wrong. wrong)
  stops_stays (refusals.Limit quantity) stops = of_bytes (refusals.Limit quantity) stops stops.after refl stops.refused (λ lines wrong. wrong)
  stops_stays refusals.NoMemory stops = for_memory stops
