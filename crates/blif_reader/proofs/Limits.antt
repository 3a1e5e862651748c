-- Texts up to the limit and past it, and what a reading answers.
use Rattle.std.proofs.Common.{◌≡◌, ℕ, ◌+◌, ◌-◌, ◌<◌, ◌≤◌, min, Bool, true, false, ltb, cond, List, ◌++◌, length, take, Option, Some, None, Result, Ok, Err, refl, sym, ap, subst, ◌∙◌, arith}
use Rattle.std.specs.Option.{option_or}
use Rattle.std.proofs.lemmas.Bool.{lt-ltb, le-ltb, ltb-true}
use Rattle.std.proofs.lemmas.List.{length-append, take_all, take-append-le}
use Rattle.pulse_ids.specs.declared.quantities.Quantity.TheVariants as quantities
use Rattle.source_machine.specs.declared.unset.Unset.{Unset}
use Rattle.word_scan.specs.Lines.{PlainLines}
use Rattle.word_scan.specs.Logical.{PlainLogical}
use Rattle.word_scan.proofs.CallerLemmasPieces.{take_joined, prefix_within}
use Rattle.blif_reader.specs.declared.refusals.BlifRefusal.{BlifRefusal}
use Rattle.blif_reader.specs.declared.refusals.BlifRefusal.TheVariants as refusals
use Rattle.blif_reader.specs.declared.readings.Reading.{Reading}
use Rattle.blif_reader.specs.States.{BlifState}
use Rattle.blif_reader.specs.Sources.{limit, text_read, refusal_of, too_long, early}
use Rattle.blif_reader.specs.Readings.{HasRead, HasStopped, IsReading, OrMemory, Answers}
use Rattle.blif_reader.proofs.Taking.{or_memory_then, refused_stays}

pub too_long_is : (text : List ℕ) → limit < length text → too_long text ≡ Some (refusals.Limit quantities.SourceBytes)
too_long_is text long = let e : ltb limit (length text) ≡ true = lt-ltb _ _ long in rw e refl

pub not_too_long : (text : List ℕ) → length text ≤ limit → too_long text ≡ None
not_too_long text short = let e : ltb limit (length text) ≡ false = le-ltb _ _ short in rw e refl

module _ (unset : Unset) where
  -- what whole logical lines within the limit show
  pub early_shown : (text : List ℕ) (refusal : BlifRefusal) → text_read unset (take limit text) ≡ Err refusal → early unset text ≡ Some refusal
  early_shown text refusal h = ap (λ (r : Result BlifState BlifRefusal). option_or (refusal_of r) (too_long text)) h

  pub early_quiet : (text : List ℕ) (state : BlifState) → text_read unset (take limit text) ≡ Ok state → early unset text ≡ too_long text
  early_quiet text state h = ap (λ (r : Result BlifState BlifRefusal). option_or (refusal_of r) (too_long text)) h

  long_by : (text more : List ℕ) (refusal : BlifRefusal) (long : Bool) → ltb limit (length text) ≡ long → cond long (Some (refusals.Limit quantities.SourceBytes)) None ≡ Some refusal
      → (limit < length text) × (refusals.Limit quantities.SourceBytes ≡ refusal)
  long_by text more refusal true e h = (ltb-true _ _ e, cc)
  long_by text more refusal false e h = absurd cc

  stays_by : (text more : List ℕ) (refusal : BlifRefusal) (read : Result BlifState BlifRefusal) → text_read unset (take limit text) ≡ read → early unset text ≡ Some refusal
      → early unset (text ++ more) ≡ Some refusal
  stays_by text more refusal (Err other) e h =
      let same : other ≡ refusal = let k = sym (early_shown text other e) ∙ h in cc in
      early_shown (text ++ more) refusal (ap (text_read unset) (take_joined limit text more)
      ∙ refused_stays unset (take limit text) (take (limit - length text) more) refusal (e ∙ ap (λ (r : BlifRefusal). Err r) same))
  stays_by text more refusal (Ok state) e h =
      let k = long_by text more refusal (ltb limit (length text)) refl (sym (early_quiet text state e) ∙ h) in
      early_quiet (text ++ more) state (ap (text_read unset) (take-append-le limit text more (omega (arith, k.0))) ∙ e)
      ∙ too_long_is (text ++ more) (omega (arith, k.0, length-append text more)) ∙ ap (λ (r : BlifRefusal). Some r) k.1

  -- what the first bytes show stays shown
  pub early_stays : (text more : List ℕ) (refusal : BlifRefusal) → early unset text ≡ Some refusal → early unset (text ++ more) ≡ Some refusal
  early_stays text more refusal h = stays_by text more refusal (text_read unset (take limit text)) refl h

  module _ (text piece part : List ℕ) (room : ℕ) (within : room ≤ limit) (e : length text ≡ limit - room) (f : part ≡ take room piece) where
    bytes_are : take limit (text ++ piece) ≡ text ++ part
    bytes_are = prefix_within limit text piece room within e ∙ ap (λ (l : List ℕ). text ++ l) (sym f)

    -- reading stopped within the limit
    pub stopped_at : (refusal : BlifRefusal) → OrMemory refusal (text_read unset (text ++ part) ≡ Err refusal) → OrMemory refusal (early unset (text ++ piece) ≡ Some refusal)
    stopped_at refusal h = or_memory_then refusal _ _ (λ k. early_shown (text ++ piece) refusal (ap (text_read unset) bytes_are ∙ k)) h

    pub too_long_at : (lines : PlainLines) (logical : PlainLogical) (state : BlifState) → room < length piece → HasRead unset (text ++ part) lines logical state
        → early unset (text ++ piece) ≡ Some (refusals.Limit quantities.SourceBytes)
    too_long_at lines logical state long has =
        early_quiet (text ++ piece) state (ap (text_read unset) bytes_are ∙ has.reads) ∙ too_long_is (text ++ piece) (omega (arith, length-append text piece, e, within, long))

    pub goes_on_at : (lines : PlainLines) (logical : PlainLogical) (state : BlifState) → length piece ≤ room → HasRead unset (text ++ part) lines logical state
        → HasStopped unset (text ++ piece) None lines logical state
    goes_on_at lines logical state short has = (
      omega (arith, length-append text piece, e, within, short),
      subst (λ (l : List ℕ). HasRead unset (text ++ l) lines logical state) (f ∙ take_all room piece short) has,
    )

  pub reads_not : (text piece : List ℕ) (old new : Reading) (refusal : BlifRefusal) → old.stopped ≡ Some refusal → IsReading unset text old
      → new.taken ≡ old.taken + min (length piece) (limit - old.taken) → new.stopped ≡ old.stopped → new.unset ≡ old.unset → IsReading unset (text ++ piece) new
  reads_not text piece old new refusal is read taken same choice =
      let h : OrMemory refusal (early unset text ≡ Some refusal) = subst (λ (s : Option BlifRefusal). HasStopped unset text s old.lines old.logical old.state) is read.stopped in
      record {
        choice = choice ∙ read.choice;
        taken = omega (arith, read.taken, taken, length-append text piece);
        stopped = subst (λ (s : Option BlifRefusal). HasStopped unset (text ++ piece) s new.lines new.logical new.state) (sym (same ∙ is))
            (or_memory_then refusal _ _ (early_stays text piece refusal) h);
      }

  -- nothing is shown where nothing stopped
  pub answers_going : (text : List ℕ) (reading : Reading) → reading.stopped ≡ None → IsReading unset text reading → early unset text ≡ None
  answers_going text reading is read =
      let stands : HasStopped unset text None reading.lines reading.logical reading.state =
      subst (λ (s : Option BlifRefusal). HasStopped unset text s reading.lines reading.logical reading.state) is read.stopped in
      early_quiet text reading.state (ap (text_read unset) (take_all limit text stands.0) ∙ stands.1.reads) ∙ not_too_long text stands.0

  pub stands : (text : List ℕ) (reading : Reading) (refusal : BlifRefusal) → reading.stopped ≡ Some refusal → IsReading unset text reading → OrMemory refusal (early unset text ≡ Some refusal)
  stands text reading refusal is read = subst (λ (s : Option BlifRefusal). HasStopped unset text s reading.lines reading.logical reading.state) is read.stopped

pub answers : (A : Type 0) (refusal : BlifRefusal) (shown : Option BlifRefusal) → OrMemory refusal (shown ≡ Some refusal) → Answers {A = A} (Err refusal) shown
answers A (refusals.Fault fault) shown h = h
answers A (refusals.Limit quantity) shown h = h
answers A refusals.NoMemory shown h = tt
