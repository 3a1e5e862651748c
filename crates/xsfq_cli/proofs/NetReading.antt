-- The reader of texts that hold one netlist: what is shown early stands, and is the verdict.
use Rattle.std.proofs.Common.{◌≡◌, ◌⊎◌, inl, inr, ◌<◌, ◌≤◌, ℕ, ◌+◌, Bool, true, false, cond, List, [], ◌∷◌, ◌++◌, append_assoc, length, take, drop, Some, None, Ok, Err, refl, sym, ap, ◌∙◌, arith}
use Rattle.std.specs.Prelude.{option_map}
use Rattle.std.specs.Option.{option_or}
use Rattle.std.specs.declared.option.Option.{Option}
use Rattle.std.specs.declared.result.Result.{Result}
use Rattle.std.proofs.lemmas.List.{take-append-drop, length-append, length-take, take_all}
use Rattle.cell_netlist.specs.Netlists.{PlainNetlist}
use Rattle.netlist_reader.specs.declared.refusals.NetRefusal.{NetRefusal}
use Rattle.netlist_reader.specs.declared.refusals.NetRefusal.TheVariants as refusals
use Rattle.netlist_reader.specs.Building.{OrMemory}
use Rattle.netlist_reader.specs.Laws.{EarlyStands}
use Rattle.netlist_reader.specs.Places.{has_end, netlist_in}
use Rattle.netlist_reader.specs.Readings.{Answers}
use Rattle.netlist_reader.specs.Verdicts.{after_end, early, judged, lines_in, net_verdict}
use Rattle.netlist_reader.proofs.CallerLemmas.{after_end_joined, ended_by_rest, lines_joined_in, quiet_ended}
use Rattle.run_outcomes.specs.declared.outcomes.Outcome.{Outcome}
use Rattle.run_outcomes.specs.declared.outcomes.Outcome.TheVariants as outcomes
use Rattle.xsfq_cli.specs.Answering.{IsEarly}
use Rattle.xsfq_cli.specs.NetTexts.{alone_by, alone_early, alone_verdict, in_outcomes, net_said, net_shown, rest_refusal, SaysNet}
use Rattle.run_outcomes.specs.Outcomes.{net_outcome}

-- a refusal is shown by a line, or by what stands after the `end` line
data IsShown (text : List ℕ) (refusal : NetRefusal) : Type 0 where
  by_line : early text ≡ Some refusal → IsShown text refusal
  by_rest : (byte : ℕ) (rest : List ℕ) → early text ≡ None → after_end text ≡ byte ∷ rest → refusal ≡ refusals.BadLine (length (lines_in text) + 1) → IsShown text refusal

found : (text : List ℕ) (refusal : NetRefusal) → alone_early text ≡ Some refusal → IsShown text refusal
found text refusal e = in_lines (early text) refl e
  where
    lines : ℕ
    lines = length (lines_in text)

    in_rest : (rest : List ℕ) → early text ≡ None → after_end text ≡ rest → rest_refusal lines rest ≡ Some refusal → IsShown text refusal
    in_rest [] none d e = absurd cc
    in_rest (byte ∷ rest) none d e = by_rest byte rest none d cc

    in_lines : (shown : Option NetRefusal) → early text ≡ shown → option_or shown (rest_refusal lines (after_end text)) ≡ Some refusal → IsShown text refusal
    in_lines None d e = in_rest (after_end text) d refl e
    in_lines (Some other) d e = by_line (d ∙ e)

-- a text with something after it
early_with_rest : (text rest : List ℕ) (byte : ℕ) → early text ≡ None → after_end text ≡ byte ∷ rest → alone_early text ≡ Some (refusals.BadLine (length (lines_in text) + 1))
early_with_rest text rest byte none e = rw (none, e) refl

abbrev done : PlainNetlist × List ℕ → Result (PlainNetlist × List ℕ) NetRefusal
done x = Ok x

verdict_with_rest : (text rest : List ℕ) (byte : ℕ) → early text ≡ None → after_end text ≡ byte ∷ rest → alone_verdict text ≡ Err (refusals.BadLine (length (lines_in text) + 1))
verdict_with_rest text rest byte none e =
    let ended = ended_by_rest text rest byte e in
    let verdict : net_verdict text ≡ done (netlist_in (lines_in text), byte ∷ rest) =
    ap (λ (o : Option NetRefusal). judged o text) none
    ∙ ap (λ b. cond b (done (netlist_in (lines_in text), after_end text)) (Err refusals.Truncated)) ended
    ∙ ap (λ (l : List ℕ). done (netlist_in (lines_in text), l)) e in
    ap (alone_by (length (lines_in text))) verdict

module _ (stands : EarlyStands) where
  alone_stays : (text more : List ℕ) (refusal : NetRefusal) → IsShown text refusal → alone_early (text ++ more) ≡ Some refusal
  alone_stays text more refusal (by_line e) =
      ap (λ (o : Option NetRefusal). option_or o (rest_refusal (length (lines_in (text ++ more))) (after_end (text ++ more)))) (stands.shown text more refusal e)
  alone_stays text more refusal (by_rest byte rest none e d) =
      let ended = ended_by_rest text rest byte e in
      early_with_rest (text ++ more) (rest ++ more) byte (quiet_ended text more ended none) (after_end_joined text more ended ∙ ap (λ l. l ++ more) e)
      ∙ ap (λ lines. Some (refusals.BadLine (length lines + 1))) (lines_joined_in text more ended) ∙ ap (λ (r : NetRefusal). Some r) (sym d)

  alone_final : (text more : List ℕ) (refusal : NetRefusal) → IsShown text refusal → alone_verdict (text ++ more) ≡ Err refusal
  alone_final text more refusal (by_line e) = ap (alone_by (length (lines_in (text ++ more)))) (stands.judged text more refusal e)
  alone_final text more refusal (by_rest byte rest none e d) =
      let ended = ended_by_rest text rest byte e in
      verdict_with_rest (text ++ more) (rest ++ more) byte (quiet_ended text more ended none) (after_end_joined text more ended ∙ ap (λ l. l ++ more) e)
      ∙ ap (λ lines. Err (refusals.BadLine (length lines + 1))) (lines_joined_in text more ended) ∙ ap (λ (r : NetRefusal). Err r) (sym d)

-- the refusal of an outcome that is shown
some_refusal : (shown : Option NetRefusal) (outcome : Outcome) → option_map net_outcome shown ≡ Some outcome
    → (refusal : NetRefusal) × (shown ≡ Some refusal) × (outcome ≡ net_outcome refusal)
some_refusal None outcome e = cc
some_refusal (Some refusal) outcome e = (refusal, refl, cc)

pub net_is_early : EarlyStands → IsEarly net_shown SaysNet
net_is_early stands = record {
  stays = λ text more outcome e.
      let r = some_refusal (alone_early text) outcome e in
      ap (option_map net_outcome) (alone_stays stands text more r.0 (found text r.0 r.1)) ∙ ap (λ (o : Outcome). Some o) (sym r.2);
  final = λ text more outcome e.
      let r = some_refusal (alone_early text) outcome e in
      ap in_outcomes (alone_final stands text more r.0 (found text r.0 r.1)) ∙ ap (λ (o : Outcome). Err o) (sym r.2);
}

-- what a reader answers at the end
pub said_net : (text : List ℕ) (net : PlainNetlist) → net_verdict text ≡ Ok (net, []) → net_said text ≡ Ok net
said_net text net e = ap (λ v. in_outcomes (alone_by (length (lines_in text)) v)) e

pub said_refusal : (text : List ℕ) (refusal : NetRefusal) (outcome : Outcome) → OrMemory refusal (net_verdict text ≡ Err refusal) → outcome ≡ net_outcome refusal
    → (outcome ≡ outcomes.NoMemory) ⊎ (net_said text ≡ Err outcome)
said_refusal text refusals.NoMemory outcome e d = inl d
said_refusal text (refusals.BadLine line) outcome e d = inr (ap (λ v. in_outcomes (alone_by (length (lines_in text)) v)) e ∙ ap (λ (o : Outcome). Err o) (sym d))
said_refusal text refusals.Truncated outcome e d = inr (ap (λ v. in_outcomes (alone_by (length (lines_in text)) v)) e ∙ ap (λ (o : Outcome). Err o) (sym d))
said_refusal text (refusals.Limit quantity) outcome e d = inr (ap (λ v. in_outcomes (alone_by (length (lines_in text)) v)) e ∙ ap (λ (o : Outcome). Err o) (sym d))

-- what it answers to a piece: nothing is shown, a refusal is, or something stands after the `end` line
quiet_text : (text : List ℕ) → early text ≡ None → after_end text ≡ [] → net_shown text ≡ None
quiet_text text none e = rw (none, e) refl

pub quiet_net : (text piece : List ℕ) (used : ℕ) → length piece ≤ used → early (text ++ piece) ≡ None → after_end (text ++ take used piece) ≡ [] → net_shown (text ++ piece) ≡ None
quiet_net text piece used all none e = quiet_text (text ++ piece) none (ap (λ l. after_end (text ++ l)) (sym (take_all used piece all)) ∙ e)

pub quiet_of : {A : Type 0} (result : Result A NetRefusal) (x : A) (shown : Option NetRefusal) → result ≡ Ok x → Answers result shown → shown ≡ None
quiet_of (Ok y) x shown e a = a
quiet_of (Err refusal) x shown e a = cc

-- where not all of a piece was taken, the text has ended
pub ended_by : (ended : Bool) (used all : ℕ) → (ended ≡ false → used ≡ all) → used < all → ended ≡ true
ended_by true used all whole less = refl
ended_by false used all whole less = absurd (omega (arith, whole refl, less))

pub shown_net : (text : List ℕ) (refusal : NetRefusal) (outcome : Outcome) → OrMemory refusal (early text ≡ Some refusal) → outcome ≡ net_outcome refusal
    → (outcome ≡ outcomes.NoMemory) ⊎ (net_shown text ≡ Some outcome)
shown_net text refusals.NoMemory outcome e d = inl d
shown_net text (refusals.BadLine line) outcome e d = inr (rw e (ap (λ (o : Outcome). Some o) (sym d)))
shown_net text refusals.Truncated outcome e d = inr (rw e (ap (λ (o : Outcome). Some o) (sym d)))
shown_net text (refusals.Limit quantity) outcome e d = inr (rw e (ap (λ (o : Outcome). Some o) (sym d)))

-- a piece of which some bytes stand after the `end` line
pub shown_rest : (text piece : List ℕ) (used lines : ℕ) → used < length piece → has_end (lines_in (text ++ take used piece)) ≡ true
    → after_end (text ++ take used piece) ≡ [] → early (text ++ piece) ≡ None → lines ≡ length (lines_in (text ++ take used piece))
    → net_shown (text ++ piece) ≡ Some (outcomes.NetText (refusals.BadLine (lines + 1)))
shown_rest text piece used lines less ended none quiet count = by_more (drop used piece) (length-drop_is less) whole
  where
    first : List ℕ
    first = text ++ take used piece

    whole : first ++ drop used piece ≡ text ++ piece
    whole = append_assoc text (take used piece) (drop used piece) ∙ ap (λ l. text ++ l) (take-append-drop used piece)

    length-drop_is : used < length piece → 0 < length (drop used piece)
    length-drop_is less = omega (arith, ap length (take-append-drop used piece), length-append (take used piece) (drop used piece), length-take used piece, less)

    by_more : (more : List ℕ) → 0 < length more → first ++ more ≡ text ++ piece → net_shown (text ++ piece) ≡ Some (outcomes.NetText (refusals.BadLine (lines + 1)))
    by_more [] some e = absurd (omega (arith, some))
    by_more (byte ∷ more) some e =
        let after : after_end (text ++ piece) ≡ byte ∷ more = ap after_end (sym e) ∙ after_end_joined first (byte ∷ more) ended ∙ ap (λ l. l ++ byte ∷ more) none in
        let same : lines_in (text ++ piece) ≡ lines_in first = ap lines_in (sym e) ∙ lines_joined_in first (byte ∷ more) ended in
        ap (option_map net_outcome) (early_with_rest (text ++ piece) more byte quiet after)
        ∙ ap (λ n. Some (outcomes.NetText (refusals.BadLine (n + 1)))) (ap length same ∙ sym count)
