-- The reader of sources, where they are BLIF.
use Rattle.std.proofs.Common.{◌≡◌, ◌<◌, ◌≤◌, ◌⊎◌, inl, inr, ℕ, ◌+◌, ◌-◌, Bool, true, false, ltb, ltb-true, ltb-false, List, [], ◌++◌, length, take, drop, Some, None, Ok, Err, refl, sym, ap, subst, ◌∙◌, arith, length-append, length-take, take-append-drop, take_all}
use Rattle.std.proofs.Math.Seq.{drop-append-add}
use Rattle.std.proofs.lemmas.Bool.{le-ltb, lt-ltb}
use Rattle.std.specs.Prelude.{option_map, IfOk, IfErr, OnOk, if◌then◌else◌}
use Rattle.std.specs.declared.option.Option.{Option}
use Rattle.std.specs.declared.result.Result.{Result}
use Rattle.source_machine.specs.Machines.{PlainMachine}
use Rattle.source_machine.specs.declared.unset.Unset.{Unset}
use Rattle.source_machine.specs.declared.unset.Unset.TheVariants.{Refuse}
use Rattle.aiger_reader.specs.declared.readings.Reading as aiger_reading
use Rattle.aiger_reader.specs.Readings as aiger_readings
use Rattle.blif_reader.specs.declared.readings.Reading.{Reading}
use Rattle.blif_reader.specs.declared.refusals.BlifRefusal.{BlifRefusal}
use Rattle.blif_reader.specs.declared.refusals.BlifRefusal.TheVariants as refusals
use Rattle.blif_reader.specs.Sources.{early, judgement, IsVerdictOf}
use Rattle.blif_reader.specs.Readings.{Answers, IsReading, OrMemory}
use Rattle.run_outcomes.specs.declared.outcomes.Outcome.{Outcome}
use Rattle.run_outcomes.specs.declared.outcomes.Outcome.TheVariants as outcomes
use Rattle.xsfq_cli.specs.Answering.{IsOrNoMemory, Tells}
use Rattle.run_outcomes.specs.Outcomes.{blif_outcome}
use Rattle.xsfq_cli.specs.Reading.{HasRead, due, fed_as, fed_blif, unheld, IsBlifAnswer, IsBlifVerdict, JudgesBlif}
use Rattle.xsfq_cli.specs.Sources.{SourceKind, Aiger, Blif, begins_aiger, kind_of, shown_as, source_shown, IsVerdictAs, HasVerdict}
use Rattle.xsfq_cli.proofs.SourceReading.{same_kind, few_kind, kept_on}

-- a text that doesn't begin AIGER is BLIF
blif_kind : (kept text : List ℕ) → kept ≡ take 4 text → begins_aiger kept ≡ false → kind_of text ≡ Blif
blif_kind kept text e begins = ap (λ (b : Bool). if b then Aiger else Blif) (ap begins_aiger (sym e) ∙ begins)

few_text : (text : List ℕ) → ltb (length text) 4 ≡ true → kind_of text ≡ Blif
few_text text few = few_kind text (omega (arith, ltb-true _ _ few, length-take 4 text))

held_few : (text : List ℕ) → ltb (length text) 4 ≡ true → fed_blif (kind_of text) text ≡ []
held_few text few = ap (λ k. fed_blif k text) (few_text text few) ∙ ap (λ (b : Bool). if b then [] else text) few

held_many : (text piece : List ℕ) → kind_of (text ++ piece) ≡ Blif → ltb (length text) 4 ≡ false → fed_blif (kind_of text) text ≡ text
held_many text piece kind many = ap (λ k. fed_blif k text) (sym (same_kind text piece many) ∙ kind) ∙ ap (λ (b : Bool). if b then [] else text) many

-- of BLIF, AIGER's reader has none
unfed_aiger : (text piece : List ℕ) → kind_of (text ++ piece) ≡ Blif → fed_as (kind_of text) text ≡ []
unfed_aiger text piece kind = go (ltb (length text) 4) refl
  where
    go : (b : Bool) → ltb (length text) 4 ≡ b → fed_as (kind_of text) text ≡ []
    go true few = ap (λ k. fed_as k text) (few_text text few)
    go false many = ap (λ k. fed_as k text) (sym (same_kind text piece many) ∙ kind)

-- the bytes that BLIF's reader has after a piece
fed_whole : (text kept piece now fed : List ℕ) (count : ℕ) → kept ≡ take 4 text → now ≡ take 4 (kept ++ piece) → length now ≡ 4 → count ≡ length now - length kept
    → (ltb (length text) 4 ≡ true → fed ≡ []) → (ltb (length text) 4 ≡ false → fed ≡ text) → fed ++ (due (length kept) now ++ drop count piece) ≡ text ++ piece
fed_whole text kept piece now fed count e is four sum none all = go (ltb (length kept) 4) refl
  where
    go : (b : Bool) → ltb (length kept) 4 ≡ b → fed ++ (due (length kept) now ++ drop count piece) ≡ text ++ piece
    go true few =
        let short : length (take 4 text) < 4 = omega (arith, ap length e, ltb-true _ _ few) in
        let same : kept ≡ text = e ∙ take_all 4 text (omega (arith, length-take 4 text, short)) in
        let sums : 4 ≡ length kept + count = omega (arith, four, sum, ltb-true _ _ few) in
        let rest : drop count piece ≡ drop 4 (kept ++ piece) = sym (ap (λ n. drop n (kept ++ piece)) sums ∙ drop-append-add kept piece count) in
        ap (λ l. l ++ (due (length kept) now ++ drop count piece)) (none (lt-ltb _ _ (omega (arith, length-take 4 text, short))))
        ∙ ap (λ (b : Bool). (if b then now else []) ++ drop count piece) few
        ∙ ap (λ l. l ++ drop count piece) is ∙ ap (λ l. take 4 (kept ++ piece) ++ l) rest ∙ take-append-drop 4 (kept ++ piece) ∙ ap (λ l. l ++ piece) same
    go false many =
        let whole : length kept ≡ 4 = omega (arith, ap length e, length-take 4 text, ltb-false _ _ many) in
        let zero : count ≡ 0 = omega (arith, sum, four, whole) in
        ap (λ l. l ++ (due (length kept) now ++ drop count piece)) (all (le-ltb _ _ (omega (arith, ap length e, length-take 4 text, whole))))
        ∙ ap (λ (b : Bool). text ++ ((if b then now else []) ++ drop count piece)) many
        ∙ ap (λ n. text ++ drop n piece) zero

-- an answer that holds in each case
pub on_any : {A E : Type 0} {P : Type 0} (result : Result A E) → P → OnOk result P
on_any (Ok x) holds = holds
on_any (Err x) holds = tt

-- where fewer than four bytes are kept, fewer came
few_came : (text kept piece now : List ℕ) → kept ≡ take 4 text → now ≡ take 4 (kept ++ piece) → length now < 4 → ltb (length (text ++ piece)) 4 ≡ true
few_came text kept piece now e is few =
    let head : now ≡ take 4 (text ++ piece) = is ∙ kept_on text kept piece e in
    lt-ltb _ _ (omega (arith, ap length head, length-take 4 (text ++ piece), few))

-- no reader has any of them
pub few_more : (text kept piece now : List ℕ) (aiger : aiger_reading.Reading) (blif : Reading) → HasRead text kept aiger blif → now ≡ take 4 (kept ++ piece) → length now < 4
    → HasRead (text ++ piece) now aiger blif
few_more text kept piece now aiger blif has is few =
    let head : now ≡ take 4 (text ++ piece) = is ∙ kept_on text kept piece has.head in
    let less : ltb (length (text ++ piece)) 4 ≡ true = few_came text kept piece now has.head is few in
    let before : ltb (length text) 4 ≡ true = lt-ltb _ _ (omega (arith, ltb-true _ _ less, length-append text piece)) in
    record {
      head = head;
      fed = subst (λ (l : List ℕ). aiger_readings.IsReading Refuse l aiger)
          (ap (λ k. fed_as k text) (few_text text before) ∙ sym (ap (λ k. fed_as k (text ++ piece)) (few_text (text ++ piece) less))) has.fed;
      blif_fed = subst (λ (l : List ℕ). IsReading Refuse l blif) (held_few text before ∙ sym (held_few (text ++ piece) less)) has.blif_fed;
    }

-- and they show nothing
pub few_told : (text kept piece now : List ℕ) (aiger : aiger_reading.Reading) (blif : Reading) → HasRead text kept aiger blif → now ≡ take 4 (kept ++ piece) → length now < 4
    → source_shown (text ++ piece) ≡ None
few_told text kept piece now aiger blif has is few =
    ap (λ (b : Bool). if b then None else shown_as (kind_of (text ++ piece)) (text ++ piece)) (few_came text kept piece now has.head is few)

module _ (text kept piece now : List ℕ) (count : ℕ) (aiger : aiger_reading.Reading) (blif : Reading) (has : HasRead text kept aiger blif) (is : now ≡ take 4 (kept ++ piece))
    (full : 4 ≤ length now) (begins : begins_aiger now ≡ false) (sum : count ≡ length now - length kept) where
  head : now ≡ take 4 (text ++ piece)
  head = is ∙ kept_on text kept piece has.head

  four : length now ≡ 4
  four = omega (arith, full, ap length head, length-take 4 (text ++ piece))

  kind : kind_of (text ++ piece) ≡ Blif
  kind = blif_kind now (text ++ piece) head begins

  many : ltb (length (text ++ piece)) 4 ≡ false
  many = le-ltb _ _ (omega (arith, four, ap length head, length-take 4 (text ++ piece)))

  whole : fed_blif (kind_of text) text ++ (due (length kept) now ++ drop count piece) ≡ text ++ piece
  whole = fed_whole text kept piece now (fed_blif (kind_of text) text) count has.head is four sum (λ few. held_few text few) (λ m. held_many text piece kind m)

  all_fed : fed_blif (kind_of (text ++ piece)) (text ++ piece) ≡ text ++ piece
  all_fed = ap (λ k. fed_blif k (text ++ piece)) kind ∙ ap (λ (b : Bool). if b then [] else (text ++ piece)) many

  -- the reader has a piece more of BLIF
  pub blif_more : (after : Reading) (same : aiger_reading.Reading) → same ≡ aiger
      → ((before : List ℕ) → IsReading Refuse before blif → IsReading Refuse (before ++ (due (length kept) now ++ drop count piece)) after)
      → HasRead (text ++ piece) now same after
  blif_more after same kept_aiger read = record {
    head = head;
    fed = subst (λ (a : aiger_reading.Reading). aiger_readings.IsReading Refuse (fed_as (kind_of (text ++ piece)) (text ++ piece)) a) (sym kept_aiger)
        (subst (λ (l : List ℕ). aiger_readings.IsReading Refuse l aiger) (unfed_aiger text piece kind ∙ sym (ap (λ k. fed_as k (text ++ piece)) kind)) has.fed);
    blif_fed = subst (λ (l : List ℕ). IsReading Refuse l after) (whole ∙ sym all_fed) (read (fed_blif (kind_of text) text) has.blif_fed);
  }

  -- what it answers
  pub blif_told : (result : Result Unit BlifRefusal) (outcome : Result Unit Outcome)
      → ((before : List ℕ) → IsReading Refuse before blif → Answers result (early Refuse (before ++ (due (length kept) now ++ drop count piece))))
      → IsBlifAnswer result outcome → Tells (source_shown (text ++ piece)) outcome
  blif_told result outcome told answer =
      let a : Answers result (early Refuse (text ++ piece)) = subst (λ (l : List ℕ). Answers result (early Refuse l)) whole (told (fed_blif (kind_of text) text) has.blif_fed) in
      let shown : source_shown (text ++ piece) ≡ option_map blif_outcome (early Refuse (text ++ piece)) =
      ap (λ (b : Bool). if b then None else shown_as (kind_of (text ++ piece)) (text ++ piece)) many ∙ ap (λ k. shown_as k (text ++ piece)) kind in
      subst (λ (o : Option Outcome). Tells o outcome) (sym shown) (tells_by result (early Refuse (text ++ piece)) outcome a answer)
    where
      tells_by : (result : Result Unit BlifRefusal) (shown : Option BlifRefusal) (outcome : Result Unit Outcome) → Answers result shown → IsBlifAnswer result outcome
          → Tells (option_map blif_outcome shown) outcome
      tells_by (Ok x) shown (Ok y) a is = ap (option_map blif_outcome) a
      tells_by (Ok x) shown (Err y) a is = absurd is
      tells_by (Err x) shown (Ok y) a is = absurd is
      tells_by (Err refusals.NoMemory) shown (Err y) a is = inl is
      tells_by (Err (refusals.Fault fault)) shown (Err y) a is = inr (ap (option_map blif_outcome) a ∙ ap (λ o. Some o) (sym is))
      tells_by (Err (refusals.Limit quantity)) shown (Err y) a is = inr (ap (option_map blif_outcome) a ∙ ap (λ o. Some o) (sym is))

-- what the reader answers at the end of what it has
pub blif_judged : (blif : Reading) (verdict : Result PlainMachine BlifRefusal)
    → IfOk verdict (λ machine. (unset : Unset) (text : List ℕ) → IsReading unset text blif → IsVerdictOf (judgement unset text) (Ok machine))
    → IfErr verdict (λ refusal. (unset : Unset) (text : List ℕ) → IsReading unset text blif → OrMemory refusal (IsVerdictOf (judgement unset text) (Err refusal)))
    → (text : List ℕ) → IsReading Refuse text blif → JudgesBlif text verdict
blif_judged blif (Ok machine) accepted refused text read = accepted Refuse text read
blif_judged blif (Err refusal) accepted refused text read = refused Refuse text read

-- what it answers at the end, where bytes that were held are fed before
pub held_judged : (held : List ℕ) (blif after : Reading) (verdict : Result PlainMachine BlifRefusal)
    → ((unset : Unset) (text : List ℕ) → IsReading unset text blif → IsReading unset (text ++ held) after)
    → IfOk verdict (λ machine. (unset : Unset) (text : List ℕ) → IsReading unset text after → IsVerdictOf (judgement unset text) (Ok machine))
    → IfErr verdict (λ refusal. (unset : Unset) (text : List ℕ) → IsReading unset text after → OrMemory refusal (IsVerdictOf (judgement unset text) (Err refusal)))
    → (text : List ℕ) → IsReading Refuse text blif → JudgesBlif (text ++ held) verdict
held_judged held blif after verdict fed accepted refused text read = blif_judged after verdict accepted refused (text ++ held) (fed Refuse text read)

-- the answer at the end of BLIF
pub blif_finished : (text kept : List ℕ) (aiger : aiger_reading.Reading) (blif : Reading) → HasRead text kept aiger blif → begins_aiger kept ≡ false
    → (verdict : Result PlainMachine BlifRefusal) (result : Result PlainMachine Outcome)
    → ((whole : List ℕ) → IsReading Refuse (unheld whole) blif → take 4 whole ≡ kept → JudgesBlif whole verdict)
    → IsBlifVerdict verdict result → IsOrNoMemory (HasVerdict text) result
blif_finished text kept aiger blif has begins verdict result judged is = go verdict result (judged text read (sym has.head)) is
  where
    kind_is : kind_of text ≡ Blif
    kind_is = blif_kind kept text has.head begins

    read : IsReading Refuse (unheld text) blif
    read = subst (λ (k : SourceKind). IsReading Refuse (fed_blif k text) blif) kind_is has.blif_fed

    by_refusal : (r : BlifRefusal) (outcome : Outcome) → outcome ≡ blif_outcome r → OrMemory r (IsVerdictOf (judgement Refuse text) (Err r))
        → (outcome ≡ outcomes.NoMemory) ⊎ HasVerdict text (Err outcome)
    by_refusal refusals.NoMemory outcome e told = inl e
    by_refusal (refusals.Fault fault) outcome e told = inr (subst (λ (k : SourceKind). IsVerdictAs k text (Err outcome)) (sym kind_is) (refusals.Fault fault, told, e))
    by_refusal (refusals.Limit quantity) outcome e told = inr (subst (λ (k : SourceKind). IsVerdictAs k text (Err outcome)) (sym kind_is) (refusals.Limit quantity, told, e))

    go : (verdict : Result PlainMachine BlifRefusal) (result : Result PlainMachine Outcome) → JudgesBlif text verdict → IsBlifVerdict verdict result → IsOrNoMemory (HasVerdict text) result
    go (Ok machine) (Ok same) told is =
        subst (λ (k : SourceKind). IsVerdictAs k text (Ok same)) (sym kind_is)
        (subst (λ (m : PlainMachine). IsVerdictOf (judgement Refuse text) (Ok m)) (sym is) told)
    go (Err refusal) (Err outcome) told is = by_refusal refusal outcome is told
    go (Ok machine) (Err outcome) told is = absurd is
    go (Err refusal) (Ok same) told is = absurd is

-- where fewer than four bytes came, they are all that was kept
pub unheld_few : (text kept held : List ℕ) → take 4 text ≡ kept → held ≡ kept → length kept < 4 → unheld text ++ held ≡ text
unheld_few text kept held e same few =
    let less : ltb (length text) 4 ≡ true = lt-ltb _ _ (omega (arith, ap length e, length-take 4 text, few)) in
    ap (λ (b : Bool). (if b then [] else text) ++ held) less ∙ same ∙ sym e ∙ take_all 4 text (omega (arith, ltb-true _ _ less))

pub unheld_many : (text kept : List ℕ) → take 4 text ≡ kept → 4 ≤ length kept → unheld text ≡ text
unheld_many text kept e many =
    let more : ltb (length text) 4 ≡ false = le-ltb _ _ (omega (arith, ap length e, length-take 4 text, many)) in
    ap (λ (b : Bool). if b then [] else text) more
