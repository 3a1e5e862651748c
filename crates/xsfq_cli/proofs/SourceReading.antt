-- The reader of sources: its kind by the first four bytes.
use Rattle.std.proofs.Common.{◌≡◌, ◌<◌, ◌≤◌, ◌⊎◌, inl, inr, ℕ, ◌+◌, ◌-◌, Bool, true, false, ltb, ltb-true, ltb-false, List, [], ◌++◌, length, take, drop, Some, None, Ok, Err, refl, sym, ap, subst, ◌∙◌, arith, length-append, length-take, take-append-drop, take_all}
use Rattle.std.proofs.lemmas.List.{take-append-le, take_rest}
use Rattle.std.proofs.Math.Seq.{drop-append-add}
use Rattle.std.proofs.lemmas.Bool.{le-ltb, lt-ltb, or_cases}
use Rattle.std.proofs.lemmas.Slice.Eq.{bytes_eq-Decides}
use Rattle.std.specs.Prelude.{option_map, if◌then◌else◌, codes}
use Rattle.std.specs.Str.{bytes_eq}
use Rattle.std.specs.declared.option.Option.{Option}
use Rattle.std.specs.declared.result.Result.{Result}
use Rattle.source_machine.specs.declared.unset.Unset.{Unset}
use Rattle.source_machine.specs.declared.unset.Unset.TheVariants.{Refuse}
use Rattle.source_machine.specs.Machines.{PlainMachine}
use Rattle.aiger_reader.specs.declared.readings.Reading.{Reading}
use Rattle.aiger_reader.specs.declared.refusals.AigerRefusal.{AigerRefusal}
use Rattle.aiger_reader.specs.declared.refusals.AigerRefusal.TheVariants as refusals
use Rattle.aiger_reader.specs.Sources.{early, judgement, IsVerdictOf}
use Rattle.aiger_reader.specs.Readings.{Answers, IsReading, OrMemory}
use Rattle.aiger_reader.specs.Laws.{EarlyStands}
use Rattle.blif_reader.specs.declared.readings.Reading as blif_reading
use Rattle.blif_reader.specs.declared.refusals.BlifRefusal.{BlifRefusal}
use Rattle.blif_reader.specs.Sources as blif_sources
use Rattle.blif_reader.specs.Readings as blif_readings
use Rattle.blif_reader.specs.Laws as blif_laws
use Rattle.run_outcomes.specs.declared.outcomes.Outcome.{Outcome}
use Rattle.run_outcomes.specs.declared.outcomes.Outcome.TheVariants as outcomes
use Rattle.xsfq_cli.specs.Answering.{IsEarly, Tells}
use Rattle.run_outcomes.specs.Outcomes.{aiger_outcome, blif_outcome}
use Rattle.xsfq_cli.specs.Reading.{HasRead, due, fed_as, fed_blif}
use Rattle.xsfq_cli.specs.Sources.{SourceKind, Aiger, Blif, begins_aiger, kind_of, shown_as, source_shown, IsVerdictAs, HasVerdict}
use Rattle.xsfq_cli.proofs.AigerAnswers.{IsAnswer}

-- a text that begins AIGER is AIGER
aiger_kind : (kept text : List ℕ) → kept ≡ take 4 text → begins_aiger kept ≡ true → kind_of text ≡ Aiger
aiger_kind kept text e begins = ap (λ (b : Bool). if b then Aiger else Blif) (ap begins_aiger (sym e) ∙ begins)

-- the answer at the end of AIGER
pub finish_refused : (text kept : List ℕ) (aiger : Reading) (blif : blif_reading.Reading) (refusal : AigerRefusal) (outcome : Outcome) → HasRead text kept aiger blif → begins_aiger kept ≡ true
    → outcome ≡ aiger_outcome refusal
    → ((unset : Unset) (text : List ℕ) → IsReading unset text aiger → OrMemory refusal (IsVerdictOf (judgement unset text) (Err refusal)))
    → (outcome ≡ outcomes.NoMemory) ⊎ HasVerdict text (Err outcome)
finish_refused text kept aiger blif refusal outcome has begins e told =
    let kind = aiger_kind kept text has.head begins in
    go refusal e (told Refuse text (subst (λ (k : SourceKind). IsReading Refuse (fed_as k text) aiger) kind has.fed)) kind
  where
    go : (r : AigerRefusal) → outcome ≡ aiger_outcome r → OrMemory r (IsVerdictOf (judgement Refuse text) (Err r)) → kind_of text ≡ Aiger
        → (outcome ≡ outcomes.NoMemory) ⊎ HasVerdict text (Err outcome)
    go refusals.NoMemory e told kind = inl e
    go (refusals.Fault fault) e told kind =
        inr (subst (λ (k : SourceKind). IsVerdictAs k text (Err outcome)) (sym kind) (refusals.Fault fault, told, e))
    go (refusals.Limit quantity) e told kind =
        inr (subst (λ (k : SourceKind). IsVerdictAs k text (Err outcome)) (sym kind) (refusals.Limit quantity, told, e))

-- a refusal that the first bytes show stays, and is the verdict
some_outcome : (shown : Option AigerRefusal) (outcome : Outcome) → option_map aiger_outcome shown ≡ Some outcome
    → (refusal : AigerRefusal) × (shown ≡ Some refusal) × (outcome ≡ aiger_outcome refusal)
some_outcome None outcome e = cc
some_outcome (Some refusal) outcome e = (refusal, refl, cc)

shown_aiger : (bytes : List ℕ) (refusal : AigerRefusal) (outcome : Outcome) → early Refuse bytes ≡ Some refusal → outcome ≡ aiger_outcome refusal
    → shown_as Aiger bytes ≡ Some outcome
shown_aiger bytes refusal outcome e is = ap (option_map aiger_outcome) e ∙ ap (λ o. Some o) (sym is)

some_blif : (shown : Option BlifRefusal) (outcome : Outcome) → option_map blif_outcome shown ≡ Some outcome
    → (refusal : BlifRefusal) × (shown ≡ Some refusal) × (outcome ≡ blif_outcome refusal)
some_blif None outcome e = cc
some_blif (Some refusal) outcome e = (refusal, refl, cc)

shown_blif : (bytes : List ℕ) (refusal : BlifRefusal) (outcome : Outcome) → blif_sources.early Refuse bytes ≡ Some refusal → outcome ≡ blif_outcome refusal
    → shown_as Blif bytes ≡ Some outcome
shown_blif bytes refusal outcome e is = ap (option_map blif_outcome) e ∙ ap (λ o. Some o) (sym is)

shown_stays : EarlyStands → blif_laws.EarlyStands → (kind : SourceKind) (bytes more : List ℕ) (outcome : Outcome) → shown_as kind bytes ≡ Some outcome → shown_as kind (bytes ++ more) ≡ Some outcome
shown_stays stands also Aiger bytes more outcome e =
    let r = some_outcome (early Refuse bytes) outcome e in
    shown_aiger (bytes ++ more) r.0 outcome (stands.shown Refuse bytes more r.0 r.1) r.2
shown_stays stands also Blif bytes more outcome e =
    let r = some_blif (blif_sources.early Refuse bytes) outcome e in
    shown_blif (bytes ++ more) r.0 outcome (also.shown Refuse bytes more r.0 r.1) r.2

shown_final : EarlyStands → blif_laws.EarlyStands → (kind : SourceKind) (bytes more : List ℕ) (outcome : Outcome) → shown_as kind bytes ≡ Some outcome → IsVerdictAs kind (bytes ++ more) (Err outcome)
shown_final stands also Aiger bytes more outcome e =
    let r = some_outcome (early Refuse bytes) outcome e in
    (r.0, subst (λ (j : Result PlainMachine AigerRefusal). IsVerdictOf j (Err r.0)) (sym (stands.judged Refuse bytes more r.0 r.1)) refl, r.2)
shown_final stands also Blif bytes more outcome e =
    let r = some_blif (blif_sources.early Refuse bytes) outcome e in
    (r.0, subst (λ (j : Result blif_sources.PlainSource BlifRefusal). blif_sources.IsVerdictOf j (Err r.0)) (sym (also.judged Refuse bytes more r.0 r.1)) refl, r.2)

-- four bytes tell the kind of all texts that they begin
pub same_kind : (bytes more : List ℕ) → ltb (length bytes) 4 ≡ false → kind_of (bytes ++ more) ≡ kind_of bytes
same_kind bytes more many = ap (λ l. if begins_aiger l then Aiger else Blif) (take-append-le 4 bytes more (ltb-false _ _ many))

still_many : (bytes more : List ℕ) → ltb (length bytes) 4 ≡ false → ltb (length (bytes ++ more)) 4 ≡ false
still_many bytes more many = le-ltb _ _ (omega (arith, length-append bytes more, ltb-false _ _ many))

unless_few : (few : Bool) (shown : Option Outcome) (outcome : Outcome) → (if few then None else shown) ≡ Some outcome → (few ≡ false) × (shown ≡ Some outcome)
unless_few true shown outcome e = cc
unless_few false shown outcome e = (refl, e)

pub source_is_early : EarlyStands → blif_laws.EarlyStands → IsEarly source_shown HasVerdict
source_is_early stands also = record {
  stays = λ bytes more outcome e.
      let h = unless_few (ltb (length bytes) 4) (shown_as (kind_of bytes) bytes) outcome e in
      rw (still_many bytes more h.0, same_kind bytes more h.0) (shown_stays stands also (kind_of bytes) bytes more outcome h.1);
  final = λ bytes more outcome e.
      let h = unless_few (ltb (length bytes) 4) (shown_as (kind_of bytes) bytes) outcome e in
      subst (λ (k : SourceKind). IsVerdictAs k (bytes ++ more) (Err outcome)) (sym (same_kind bytes more h.0)) (shown_final stands also (kind_of bytes) bytes more outcome h.1);
}

-- what begins AIGER has four bytes
begins_length : (head : List ℕ) → begins_aiger head ≡ true → length head ≡ 4
begins_length head e = go (or_cases (bytes_eq head (codes "aag ")) (bytes_eq head (codes "aig ")) e)
  where
    go : (bytes_eq head (codes "aag ") ≡ true) ⊎ (bytes_eq head (codes "aig ") ≡ true) → length head ≡ 4
    go (inl h) = ap length ((bytes_eq-Decides head (codes "aag ")).0 h)
    go (inr h) = ap length ((bytes_eq-Decides head (codes "aig ")).0 h)

-- what is kept after a piece is the first four bytes of all
pub kept_on : (text kept piece : List ℕ) → kept ≡ take 4 text → take 4 (kept ++ piece) ≡ take 4 (text ++ piece)
kept_on text kept piece e = go (ltb (length text) 4) refl
  where
    go : (b : Bool) → ltb (length text) 4 ≡ b → take 4 (kept ++ piece) ≡ take 4 (text ++ piece)
    go true few = ap (λ l. take 4 (l ++ piece)) (e ∙ take_all 4 text (omega (arith, ltb-true _ _ few)))
    go false many =
        let four : length kept ≡ 4 = omega (arith, ap length e, length-take 4 text, ltb-false _ _ many) in
        take-append-le 4 kept piece (omega (arith, four)) ∙ take_all 4 kept (omega (arith, four)) ∙ e ∙ sym (take-append-le 4 text piece (ltb-false _ _ many))

-- fewer than four bytes begin no AIGER
pub few_kind : (text : List ℕ) → length (take 4 text) < 4 → kind_of text ≡ Blif
few_kind text few = go (begins_aiger (take 4 text)) refl
  where
    go : (b : Bool) → begins_aiger (take 4 text) ≡ b → kind_of text ≡ Blif
    go true e = absurd (omega (arith, few, begins_length (take 4 text) e))
    go false e = ap (λ (b : Bool). if b then Aiger else Blif) e

-- the bytes that AIGER's reader has after a piece
fed_whole : (text kept piece now : List ℕ) (count : ℕ) → kept ≡ take 4 text → now ≡ take 4 (kept ++ piece) → begins_aiger now ≡ true
    → count ≡ length now - length kept → fed_as (kind_of text) text ++ (due (length kept) now ++ drop count piece) ≡ text ++ piece
fed_whole text kept piece now count e is begins sum = go (ltb (length kept) 4) refl
  where
    four : length now ≡ 4
    four = begins_length now begins

    go : (b : Bool) → ltb (length kept) 4 ≡ b → fed_as (kind_of text) text ++ (due (length kept) now ++ drop count piece) ≡ text ++ piece
    go true few =
        let short : length (take 4 text) < 4 = omega (arith, ap length e, ltb-true _ _ few) in
        let same : kept ≡ text = e ∙ take_all 4 text (omega (arith, length-take 4 text, short)) in
        let kind : kind_of text ≡ Blif = few_kind text short in
        let sums : 4 ≡ length kept + count = omega (arith, four, sum, ltb-true _ _ few) in
        let rest : drop count piece ≡ drop 4 (kept ++ piece) = sym (ap (λ n. drop n (kept ++ piece)) sums ∙ drop-append-add kept piece count) in
        ap (λ k. fed_as k text ++ (due (length kept) now ++ drop count piece)) kind
        ∙ ap (λ (b : Bool). (if b then now else []) ++ drop count piece) few
        ∙ ap (λ l. l ++ drop count piece) is ∙ ap (λ l. take 4 (kept ++ piece) ++ l) rest ∙ take-append-drop 4 (kept ++ piece) ∙ ap (λ l. l ++ piece) same
    go false many =
        let whole : length kept ≡ 4 = omega (arith, ap length e, length-take 4 text, ltb-false _ _ many) in
        let same : now ≡ kept = is ∙ take-append-le 4 kept piece (omega (arith, whole)) ∙ take_all 4 kept (omega (arith, whole)) in
        let kind : kind_of text ≡ Aiger = aiger_kind kept text e (ap begins_aiger (sym same) ∙ begins) in
        let none : count ≡ 0 = omega (arith, sum, four, whole) in
        ap (λ k. fed_as k text ++ (due (length kept) now ++ drop count piece)) kind
        ∙ ap (λ (b : Bool). text ++ ((if b then now else []) ++ drop count piece)) many
        ∙ ap (λ n. text ++ drop n piece) none

-- before four bytes came, and of AIGER, BLIF's reader has none
unfed_blif : (text piece : List ℕ) → kind_of (text ++ piece) ≡ Aiger → fed_blif (kind_of text) text ≡ []
unfed_blif text piece kind = go (ltb (length text) 4) refl
  where
    go : (b : Bool) → ltb (length text) 4 ≡ b → fed_blif (kind_of text) text ≡ []
    go true few = of_kind (kind_of text)
      where
        of_kind : (k : SourceKind) → fed_blif k text ≡ []
        of_kind Aiger = refl
        of_kind Blif = ap (λ (b : Bool). if b then [] else text) few
    go false many = ap (λ k. fed_blif k text) (sym (same_kind text piece many) ∙ kind)

-- the reader has a piece more of AIGER
pub fed_more : (text kept piece now : List ℕ) (count : ℕ) (aiger after : Reading) (blif same : blif_reading.Reading) → HasRead text kept aiger blif → same ≡ blif → now ≡ take 4 (kept ++ piece)
    → begins_aiger now ≡ true → count ≡ length now - length kept
    → ((text : List ℕ) → IsReading Refuse text aiger → IsReading Refuse (text ++ (due (length kept) now ++ drop count piece)) after)
    → HasRead (text ++ piece) now after same
fed_more text kept piece now count aiger after blif same has kept_blif is begins sum read =
    let head : now ≡ take 4 (text ++ piece) = is ∙ kept_on text kept piece has.head in
    let whole = fed_whole text kept piece now count has.head is begins sum in
    let kind : kind_of (text ++ piece) ≡ Aiger = aiger_kind now (text ++ piece) head begins in
    record {
      head = head;
      fed = subst (λ (k : SourceKind). IsReading Refuse (fed_as k (text ++ piece)) after) (sym kind)
          (subst (λ (l : List ℕ). IsReading Refuse l after) whole (read (fed_as (kind_of text) text) has.fed));
      blif_fed = subst (λ (b : blif_reading.Reading). blif_readings.IsReading Refuse (fed_blif (kind_of (text ++ piece)) (text ++ piece)) b) (sym kept_blif)
          (subst (λ (l : List ℕ). blif_readings.IsReading Refuse l blif) (unfed_blif text piece kind ∙ sym (ap (λ k. fed_blif k (text ++ piece)) kind)) has.blif_fed);
    }

-- what it answers
tells_by : (result : Result Unit AigerRefusal) (shown : Option AigerRefusal) (outcome : Result Unit Outcome) → Answers result shown → IsAnswer result outcome
    → Tells (option_map aiger_outcome shown) outcome
tells_by (Ok x) shown (Ok y) a is = ap (option_map aiger_outcome) a
tells_by (Ok x) shown (Err y) a is = absurd is
tells_by (Err x) shown (Ok y) a is = absurd is
tells_by (Err refusals.NoMemory) shown (Err y) a is = inl is
tells_by (Err (refusals.Fault fault)) shown (Err y) a is = inr (ap (option_map aiger_outcome) a ∙ ap (λ o. Some o) (sym is))
tells_by (Err (refusals.Limit quantity)) shown (Err y) a is = inr (ap (option_map aiger_outcome) a ∙ ap (λ o. Some o) (sym is))

pub told_more : (text kept piece now : List ℕ) (count : ℕ) (aiger : Reading) (blif : blif_reading.Reading) (result : Result Unit AigerRefusal) (outcome : Result Unit Outcome)
    → HasRead text kept aiger blif → now ≡ take 4 (kept ++ piece) → begins_aiger now ≡ true → count ≡ length now - length kept
    → ((text : List ℕ) → IsReading Refuse text aiger → Answers result (early Refuse (text ++ (due (length kept) now ++ drop count piece))))
    → IsAnswer result outcome → Tells (source_shown (text ++ piece)) outcome
told_more text kept piece now count aiger blif result outcome has is begins sum told answer =
    let head : now ≡ take 4 (text ++ piece) = is ∙ kept_on text kept piece has.head in
    let whole = fed_whole text kept piece now count has.head is begins sum in
    let kind : kind_of (text ++ piece) ≡ Aiger = aiger_kind now (text ++ piece) head begins in
    let four : length now ≡ 4 = begins_length now begins in
    let many : ltb (length (text ++ piece)) 4 ≡ false = le-ltb _ _ (omega (arith, four, ap length head, length-take 4 (text ++ piece))) in
    let a : Answers result (early Refuse (text ++ piece)) =
    subst (λ (l : List ℕ). Answers result (early Refuse l)) whole (told (fed_as (kind_of text) text) has.fed) in
    let shown : source_shown (text ++ piece) ≡ option_map aiger_outcome (early Refuse (text ++ piece)) =
    ap (λ (b : Bool). if b then None else shown_as (kind_of (text ++ piece)) (text ++ piece)) many ∙ ap (λ k. shown_as k (text ++ piece)) kind in
    subst (λ (o : Option Outcome). Tells o outcome) (sym shown) (tells_by result (early Refuse (text ++ piece)) outcome a answer)

-- what is due while there were fewer than four bytes
pub due_few : (held : ℕ) (kept : List ℕ) → held < 4 → due held kept ≡ kept
due_few held kept few = ap (λ (b : Bool). if b then kept else []) (lt-ltb _ _ few)

-- and nothing after
pub due_many : (held : ℕ) (kept : List ℕ) → 4 ≤ held → due held kept ≡ []
due_many held kept many = ap (λ (b : Bool). if b then kept else []) (le-ltb _ _ many)

-- the bytes that are fed
pub fed_bytes : (was kept now head piece : List ℕ) (count : ℕ) → was ≡ kept → now ≡ head
    → due (length was) now ++ take (length piece - count) (drop count piece) ≡ due (length kept) head ++ drop count piece
fed_bytes was kept now head piece count e d = rw (e, d, take_rest piece count) refl
