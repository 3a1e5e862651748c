-- What a reading answers.
use Rattle.std.proofs.Common.{◌≡◌, ℕ, ◌<◌, ◌≤◌, true, false, ltb, List, length, take, Option, Some, None, Err, refl, ap, subst, ◌∙◌, arith}
use Rattle.std.specs.Prelude.{option_map}
use Rattle.std.specs.Option.{option_or}
use Rattle.std.proofs.lemmas.Bool.{lt-ltb, le-ltb}
use Rattle.std.proofs.lemmas.List.{take_all}
use Rattle.pulse_ids.specs.declared.quantities.Quantity.TheVariants as quantities
use Rattle.source_machine.specs.declared.unset.Unset.{Unset}
use Rattle.aiger_reader.specs.declared.refusals.Shown.{Shown}
use Rattle.aiger_reader.specs.declared.refusals.Stop.{Stop}
use Rattle.aiger_reader.specs.declared.refusals.Stop.TheVariants as stops
use Rattle.aiger_reader.specs.declared.refusals.AigerRefusal.{AigerRefusal}
use Rattle.aiger_reader.specs.declared.refusals.AigerRefusal.TheVariants as refusals
use Rattle.aiger_reader.specs.declared.readings.Reading.{Reading}
use Rattle.aiger_reader.specs.Sources.{limit, shown_by, early, too_long, refusal_of}
use Rattle.aiger_reader.specs.Readings.{answer_of, IsReading, HasStopped, Answers}
use Rattle.aiger_reader.proofs.Limits.{right_so_far}

few_shown : (unset : Unset) (text : List ℕ) → length text < 4 → early unset text ≡ None
few_shown unset text few = let e : ltb (length text) 4 ≡ true = lt-ltb _ _ few in rw e refl

pub enough : (unset : Unset) (text : List ℕ) → 4 ≤ length text → early unset text ≡ option_or (option_map refusal_of (shown_by unset (take limit text))) (too_long text)
enough unset text many = let e : ltb (length text) 4 ≡ false = le-ltb _ _ many in rw e refl

answers : (A : Type 0) (refusal : AigerRefusal) (shown : Option AigerRefusal) → shown ≡ Some refusal → Answers {A = A} (Err refusal) shown
answers A (refusals.Fault fault) shown h = h
answers A (refusals.Limit quantity) shown h = h
answers A refusals.NoMemory shown h = tt

pub answers_few : (unset : Unset) (text : List ℕ) (reading : Reading) → reading.taken < 4 → IsReading unset text reading → early unset text ≡ None
answers_few unset text reading few read = few_shown unset text (omega (arith, read.taken, few))

pub early_shown : (unset : Unset) (text : List ℕ) (shown : Shown) → 4 ≤ length text → shown_by unset (take limit text) ≡ Some shown → early unset text ≡ Some (refusal_of shown)
early_shown unset text shown many h = enough unset text many ∙ ap (λ (o : Option Shown). option_or (option_map refusal_of o) (too_long text)) h

too_long_is : (text : List ℕ) → limit < length text → too_long text ≡ Some (refusals.Limit quantities.SourceBytes)
too_long_is text long = let e : ltb limit (length text) ≡ true = lt-ltb _ _ long in rw e refl

pub early_long : (unset : Unset) (text : List ℕ) → limit < length text → shown_by unset (take limit text) ≡ None → early unset text ≡ Some (refusals.Limit quantities.SourceBytes)
early_long unset text long h =
    enough unset text (omega (arith, long)) ∙ ap (λ (o : Option Shown). option_or (option_map refusal_of o) (too_long text)) h ∙ too_long_is text long

answers_stop : (A : Type 0) (unset : Unset) (text begun : List ℕ) (stop : Stop) (reading : Reading) → 4 ≤ length text → HasStopped unset text (Some stop) reading.begun.items reading.built
    → Answers {A = A} (Err (answer_of stop)) (early unset text)
answers_stop A unset text begun (stops.Unit shown) reading many h = answers A (refusal_of shown) (early unset text) (early_shown unset text shown many h)
answers_stop A unset text begun stops.TooLong reading many h = early_long unset text h.0 h.1
answers_stop A unset text begun stops.NoMemory reading many h = tt

pub answers_stopped : (A : Type 0) (unset : Unset) (text : List ℕ) (reading : Reading) (stop : Stop) → 4 ≤ reading.taken → reading.stopped ≡ Some stop → IsReading unset text reading
    → Answers {A = A} (Err (answer_of stop)) (early unset text)
answers_stopped A unset text reading stop many is read =
    answers_stop A unset text text stop reading (omega (arith, read.taken, many)) (subst (λ (s : Option Stop). HasStopped unset text s reading.begun.items reading.built) is read.stopped)

pub answers_going : (unset : Unset) (text : List ℕ) (reading : Reading) → 4 ≤ reading.taken → reading.stopped ≡ None → IsReading unset text reading → early unset text ≡ None
answers_going unset text reading many is read =
    let stands : HasStopped unset text None reading.begun.items reading.built = subst (λ (s : Option Stop). HasStopped unset text s reading.begun.items reading.built) is read.stopped in
    let short : ltb limit (length text) ≡ false = le-ltb _ _ stands.0 in
    enough unset text (omega (arith, read.taken, many)) ∙ ap (λ (t : List ℕ). option_or (option_map refusal_of (shown_by unset t)) (too_long text)) (take_all limit text stands.0)
    ∙ ap (λ (o : Option Shown). option_or (option_map refusal_of o) (too_long text)) (right_so_far unset text reading.begun.items reading.built stands.1) ∙ rw short refl
