-- Verdicts of texts that have ended.
use Rattle.std.proofs.Common.{◌≡◌, ℕ, ◌<◌, ◌≤◌, inl, inr, true, false, cond, ltb, List, [], length, take, Option, Some, None, Result, Ok, Err, refl, sym, ap, subst, ◌∙◌, arith}
use Rattle.std.specs.Prelude.{unwrap_or}
use Rattle.std.specs.Option.{option_or}
use Rattle.std.proofs.lemmas.Bool.{cases_lt, lt-ltb, le-ltb}
use Rattle.std.proofs.lemmas.List.{take_all}
use Rattle.pulse_ids.specs.declared.quantities.Quantity.TheVariants as quantities
use Rattle.source_machine.specs.declared.unset.Unset.{Unset}
use Rattle.source_machine.specs.Machines.{PlainMachine}
use Rattle.source_machine.specs.Grounding.{IsWellFounded}
use Rattle.word_scan.specs.Reading.{read_on}
use Rattle.word_scan.proofs.CallerLemmasReading.{read_joined}
use Rattle.aiger_reader.specs.declared.refusals.Shown.{Shown}
use Rattle.aiger_reader.specs.declared.refusals.Stop.{Stop}
use Rattle.aiger_reader.specs.declared.refusals.Stop.TheVariants as stops
use Rattle.aiger_reader.specs.declared.refusals.AigerRefusal.{AigerRefusal}
use Rattle.aiger_reader.specs.declared.refusals.AigerRefusal.TheVariants as refusals
use Rattle.aiger_reader.specs.declared.readings.Reading.{Reading}
use Rattle.aiger_reader.specs.Sections.{kind_at, kind_after}
use Rattle.aiger_reader.specs.Sources.{units_of, begun_of, limit, shown_by, early, refusal_of, first_refusal, last_unit, all_units, whole_source, unless_shown, judgement, IsVerdictOf, IsMachineRefusal}
use Rattle.aiger_reader.specs.Building.{PlainBuilt, nothing_built, shown_read, StopsFor}
use Rattle.aiger_reader.specs.Readings.{answer_of, OrMemory, HasRead, IsReading, HasStopped, machine_by}
use Rattle.aiger_reader.proofs.Tracking.{text_tracked, kind_tracked}
use Rattle.aiger_reader.proofs.Judging.{IsBuilt, units_right, units_wrong}
use Rattle.aiger_reader.proofs.Complete.{whole_is}
use Rattle.aiger_reader.proofs.Limits.{first_joined}
use Rattle.aiger_reader.proofs.Early.{early_shown, early_long}

abbrev failed : AigerRefusal → Result PlainMachine AigerRefusal
failed refusal = Err refusal

abbrev done : PlainMachine → Result PlainMachine AigerRefusal
done machine = Ok machine

or_memory : (refusal : AigerRefusal) (fact : Type 0) → fact → OrMemory refusal fact
or_memory (refusals.Fault fault) fact h = h
or_memory (refusals.Limit quantity) fact h = h
or_memory refusals.NoMemory fact h = tt

pub or_memory_then : (refusal : AigerRefusal) (P Q : Type 0) → (P → Q) → OrMemory refusal P → OrMemory refusal Q
or_memory_then (refusals.Fault fault) P Q f h = f h
or_memory_then (refusals.Limit quantity) P Q f h = f h
or_memory_then refusals.NoMemory P Q f h = tt

fails : (judged : Result PlainMachine AigerRefusal) (refusal : AigerRefusal) → judged ≡ failed refusal → IsVerdictOf judged (Err refusal)
fails judged refusal h = rw h refl

module _ (unset : Unset) (text : List ℕ) where
  abbrev ended : Result PlainMachine AigerRefusal
  ended = unless_shown (first_refusal unset [] (all_units text)) (whole_source unset (all_units text) (length text))

  judged_short : length text ≤ limit → judgement unset text ≡ ended
  judged_short short = let e : ltb limit (length text) ≡ false = le-ltb _ _ short in rw e refl

  pub judged_long : (refusal : AigerRefusal) → limit < length text → early unset text ≡ Some refusal → judgement unset text ≡ failed refusal
  judged_long refusal long h =
      let e : ltb limit (length text) ≡ true = lt-ltb _ _ long in
      ap (λ b. cond b (failed (unwrap_or (early unset text) (refusals.Limit quantities.SourceBytes))) ended) e
      ∙ ap (λ (o : Option AigerRefusal). failed (unwrap_or o (refusals.Limit quantities.SourceBytes))) h

  first_of_all : (shown : Shown) → shown_by unset text ≡ Some shown → first_refusal unset [] (all_units text) ≡ Some shown
  first_of_all shown h =
      let last : List (List ℕ) = last_unit (kind_after (units_of text)) (begun_of text) in
      first_joined unset [] (units_of text) last ∙ ap (λ (o : Option Shown). option_or o (first_refusal unset (units_of text) last)) h

  judged_shown : (shown : Shown) → length text ≤ limit → first_refusal unset [] (all_units text) ≡ Some shown → judgement unset text ≡ failed (refusal_of shown)
  judged_shown shown short h = judged_short short ∙ ap (λ (o : Option Shown). unless_shown o (whole_source unset (all_units text) (length text))) h

  pub stopped_shown : (shown : Shown) → shown_by unset (take limit text) ≡ Some shown → judgement unset text ≡ failed (refusal_of shown)
  stopped_shown shown h =
      elim (cases_lt limit (length text)) [
        | inl long ↦ judged_long (refusal_of shown) long (early_shown unset text shown (omega (arith, long)) h)
        | inr short ↦ judged_shown shown short (first_of_all shown (ap (shown_by unset) (sym (take_all limit text short)) ∙ h))
      ]

  stop_is : (stop : Stop) (begun : List ℕ) (built : PlainBuilt) → HasStopped unset text (Some stop) begun built → OrMemory (answer_of stop) (IsVerdictOf (judgement unset text) (Err (answer_of stop)))
  stop_is (stops.Unit shown) begun built h = or_memory (refusal_of shown) _ (fails (judgement unset text) (refusal_of shown) (stopped_shown shown h))
  stop_is stops.TooLong begun built h =
      fails (judgement unset text) (refusals.Limit quantities.SourceBytes) (judged_long (refusals.Limit quantities.SourceBytes) h.0 (early_long unset text h.0 h.1))
  stop_is stops.NoMemory begun built h = tt

  pub stopped_is : (reading : Reading) (stop : Stop) → reading.stopped ≡ Some stop → IsReading unset text reading
      → OrMemory (answer_of stop) (IsVerdictOf (judgement unset text) (Err (answer_of stop)))
  stopped_is reading stop is read = stop_is stop reading.begun.items reading.built (subst (λ (s : Option Stop). HasStopped unset text s reading.begun.items reading.built) is read.stopped)

  -- the units with the last one
  last_read : (begun : List ℕ) (built : PlainBuilt) → HasRead unset text begun built
      → read_on (shown_read unset) (Ok nothing_built) (all_units text) ≡ read_on (shown_read unset) (Ok built) (last_unit (kind_at built.header built.place) begun)
  last_read begun built has =
      let kind = kind_tracked (units_of text) built (text_tracked unset text built has.reads) in
      read_joined (shown_read unset) (Ok nothing_built) (units_of text) (last_unit (kind_after (units_of text)) (begun_of text))
      ∙ ap (λ (r : Result PlainBuilt Shown). read_on (shown_read unset) r (last_unit (kind_after (units_of text)) (begun_of text))) has.reads
      ∙ ap (λ k. read_on (shown_read unset) (Ok built) (last_unit k (begun_of text))) kind
      ∙ ap (λ (b : List ℕ). read_on (shown_read unset) (Ok built) (last_unit (kind_at built.header built.place) b)) has.begun_is

  pub last_is : (stop : Stop) (begun : List ℕ) (built : PlainBuilt) → length text ≤ limit → HasRead unset text begun built
      → StopsFor stop (read_on (shown_read unset) (Ok built) (last_unit (kind_at built.header built.place) begun))
      → OrMemory (answer_of stop) (IsVerdictOf (judgement unset text) (Err (answer_of stop)))
  last_is (stops.Unit shown) begun built short has h =
      or_memory (refusal_of shown) _ (fails (judgement unset text) (refusal_of shown) (judged_shown shown short (units_wrong unset (all_units text) shown (last_read begun built has ∙ h))))
  last_is stops.TooLong begun built short has h = absurd h
  last_is stops.NoMemory begun built short has h = tt

  -- all units are right, and so is what they have built
  module _ (begun : List ℕ) (built last : PlainBuilt) (short : length text ≤ limit) (has : HasRead unset text begun built)
      (read : read_on (shown_read unset) (Ok built) (last_unit (kind_at built.header built.place) begun) ≡ Ok last) where
    right : (first_refusal unset [] (all_units text) ≡ None) × IsBuilt unset (all_units text) last
    right = units_right unset (all_units text) last (last_read begun built has ∙ read)

    judged_whole : judgement unset text ≡ machine_by last.header last (length text)
    judged_whole =
        judged_short short ∙ ap (λ (o : Option Shown). unless_shown o (whole_source unset (all_units text) (length text))) right.0 ∙ sym (whole_is unset (all_units text) last (length text) right.1)

    pub whole_fails : (bytes : ℕ) (refusal : AigerRefusal) → bytes ≡ length text → machine_by last.header last bytes ≡ failed refusal
        → OrMemory refusal (IsVerdictOf (judgement unset text) (Err refusal))
    whole_fails bytes refusal same h = or_memory refusal _ (fails (judgement unset text) refusal (judged_whole ∙ ap (machine_by last.header last) (sym same) ∙ h))

    pub machine_read : (bytes : ℕ) (raw machine : PlainMachine) → bytes ≡ length text → machine_by last.header last bytes ≡ done raw → machine ≡ raw → IsWellFounded raw
        → IsVerdictOf (judgement unset text) (Ok machine)
    machine_read bytes raw machine size h same founded = rw (judged_whole ∙ ap (machine_by last.header last) (sym size) ∙ h) (same, founded)

    pub machine_fails : (bytes : ℕ) (raw : PlainMachine) (refusal : AigerRefusal) → bytes ≡ length text → machine_by last.header last bytes ≡ done raw
        → OrMemory refusal (IsMachineRefusal raw refusal) → OrMemory refusal (IsVerdictOf (judgement unset text) (Err refusal))
    machine_fails bytes raw refusal size h why = or_memory_then refusal _ _ (λ w. rw (judged_whole ∙ ap (machine_by last.header last) (sym size) ∙ h) w) why

none_from : (o : Option Stop) → ((stop : Stop) → o ≡ Some stop → ⊥) → o ≡ None
none_from None h = refl
none_from (Some stop) h = absurd (h stop refl)

-- a reading that hasn't stopped, under its own choice
pub record Going (unset : Unset) (text : List ℕ) (reading : Reading) : Type 0 where
  pub choice : reading.unset ≡ unset
  pub short : length text ≤ limit
  pub has : HasRead reading.unset text reading.begun.items reading.built
  pub size : reading.taken ≡ length text

pub going : (unset : Unset) (text : List ℕ) (reading : Reading) → ((stop : Stop) → reading.stopped ≡ Some stop → ⊥) → IsReading unset text reading → Going unset text reading
going unset text reading not_stopped read =
    let h : HasStopped unset text None reading.begun.items reading.built = subst (λ (s : Option Stop). HasStopped unset text s reading.begun.items reading.built)
    (none_from reading.stopped not_stopped) read.stopped in
    record {
      choice = read.choice;
      short = h.0;
      has = subst (λ u. HasRead u text reading.begun.items reading.built) (sym read.choice) h.1;
      size = omega (arith, read.taken, h.0);
    }
