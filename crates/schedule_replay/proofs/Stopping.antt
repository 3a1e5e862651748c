-- What a reading answers.
use Rattle.std.proofs.Common.{◌≡◌, ℕ, ◌+◌, ◌-◌, ◌<◌, ◌≤◌, Bool, not, true, false, List, [], ◌++◌, length, take, Option, Some, None, Result, Ok, Err, refl, sym, ap, ◌∙◌, arith, subst}
use Rattle.std.specs.Prelude.{IfErr}
use Rattle.std.proofs.lemmas.List.{length-append, take_all}
use Rattle.word_scan.specs.Lines.{PlainLines, begun, whole_lines}
use Rattle.schedule_replay.specs.declared.refusals.VectorRefusal.{VectorRefusal}
use Rattle.schedule_replay.specs.declared.refusals.VectorRefusal.TheVariants as refusals
use Rattle.schedule_replay.specs.declared.vector_lines.Form.{Form}
use Rattle.schedule_replay.specs.declared.tables.Table.{Table}
use Rattle.schedule_replay.specs.declared.readings.Reading.{Reading}
use Rattle.schedule_replay.specs.PlainVectors.{PlainVectors}
use Rattle.schedule_replay.specs.VectorTexts.{due_after, vectors_of, limit, end_refusal, shown_by, early, judgement, said_by, unless_shown}
use Rattle.schedule_replay.specs.Tables.{OrMemory}
use Rattle.schedule_replay.specs.Readings.{HasReadLines, HasStopped, IsFine, CanGoOn, IsReading, IsSafe, Answers, IsVerdict}
use Rattle.schedule_replay.proofs.Tracking.{right_so_far}
use Rattle.schedule_replay.proofs.Showing.{early_grows, early_within, early_stays, early_over, judged_by, right_shown, nothing_at_end, more_at_end}

pub untrue : (b : Bool) → not b ≡ true → b ≡ false
untrue true h = absurd cc
untrue false h = refl

pub not_untrue : (b : Bool) → not b ≡ false → b ≡ true
not_untrue true h = refl
not_untrue false h = absurd cc

pub or_memory : (refusal : VectorRefusal) (A B : Type 0) → (A → B) → OrMemory refusal A → OrMemory refusal B
or_memory (refusals.BadLine number) A B f h = f h
or_memory refusals.Truncated A B f h = f h
or_memory (refusals.Limit quantity) A B f h = f h
or_memory refusals.NoMemory A B f h = tt

fact_or : (refusal : VectorRefusal) (A : Type 0) → A → OrMemory refusal A
fact_or (refusals.BadLine number) A h = h
fact_or refusals.Truncated A h = h
fact_or (refusals.Limit quantity) A h = h
fact_or refusals.NoMemory A h = tt

answers_as : (A : Type 0) (refusal : VectorRefusal) (shown : Option VectorRefusal) → OrMemory refusal (shown ≡ Some refusal) → Answers {A = A} (Err refusal) shown
answers_as A (refusals.BadLine number) shown h = h
answers_as A refusals.Truncated shown h = h
answers_as A (refusals.Limit quantity) shown h = h
answers_as A refusals.NoMemory shown h = tt

pub verdict_is : (A : Type 0) (result judged : Result A VectorRefusal) → judged ≡ result → IsVerdict result judged
verdict_is A (Ok x) judged h = h
verdict_is A (Err (refusals.BadLine number)) judged h = h
verdict_is A (Err refusals.Truncated) judged h = h
verdict_is A (Err (refusals.Limit quantity)) judged h = h
verdict_is A (Err refusals.NoMemory) judged h = tt

verdict_as : (A : Type 0) (refusal : VectorRefusal) (judged : Result A VectorRefusal) → OrMemory refusal (judged ≡ Err refusal) → IsVerdict (Err refusal) judged
verdict_as A (refusals.BadLine number) judged h = h
verdict_as A refusals.Truncated judged h = h
verdict_as A (refusals.Limit quantity) judged h = h
verdict_as A refusals.NoMemory judged h = tt

stopped_as : (form : Form) (text : List ℕ) (refusal : VectorRefusal) (lines : PlainLines) (table : Table) → OrMemory refusal (early form text ≡ Some refusal)
    → HasStopped form text (Some refusal) lines table
stopped_as form text (refusals.BadLine number) lines table h = h
stopped_as form text refusals.Truncated lines table h = h
stopped_as form text (refusals.Limit quantity) lines table h = h
stopped_as form text refusals.NoMemory lines table h = tt

as_stopped : (form : Form) (text : List ℕ) (refusal : VectorRefusal) (lines : PlainLines) (table : Table) → HasStopped form text (Some refusal) lines table
    → OrMemory refusal (early form text ≡ Some refusal)
as_stopped form text (refusals.BadLine number) lines table h = h
as_stopped form text refusals.Truncated lines table h = h
as_stopped form text (refusals.Limit quantity) lines table h = h
as_stopped form text refusals.NoMemory lines table h = tt

module _ (form : Form) (text : List ℕ) (reading : Reading) (read : IsReading form text reading) where
  refused_now : (refusal : VectorRefusal) → reading.refused ≡ Some refusal → OrMemory refusal (early form text ≡ Some refusal)
  refused_now refusal is =
      as_stopped form text refusal reading.lines reading.table (subst (λ (r : Option VectorRefusal). HasStopped form text r reading.lines reading.table) is read.stopped)

  pub answers_refused : (A : Type 0) (refusal : VectorRefusal) → reading.refused ≡ Some refusal → Answers {A = A} (Err refusal) (early form text)
  answers_refused A refusal is = answers_as A refusal (early form text) (refused_now refusal is)

  pub verdict_refused : (refusal : VectorRefusal) → reading.refused ≡ Some refusal → IsVerdict (Err refusal) (judgement form text)
  verdict_refused refusal is =
      verdict_as PlainVectors refusal (judgement form text)
      (or_memory refusal (early form text ≡ Some refusal) (judgement form text ≡ Err refusal) (λ h. judged_by form text refusal h) (refused_now refusal is))

  -- a reading that goes on as the text grows, where it was refused
  pub refused_stays : (more : List ℕ) (refusal : VectorRefusal) (lines : PlainLines) (table : Table) → reading.refused ≡ Some refusal → HasStopped form (text ++ more) (Some refusal) lines table
  refused_stays more refusal lines table is =
      stopped_as form (text ++ more) refusal lines table
      (or_memory refusal (early form text ≡ Some refusal) (early form (text ++ more) ≡ Some refusal) (λ h. early_grows form text more refusal h) (refused_now refusal is))

  module _ (safe : IsSafe reading) (goes : reading.refused ≡ None) where
    stands : HasStopped form text None reading.lines reading.table
    stands = subst (λ (r : Option VectorRefusal). HasStopped form text r reading.lines reading.table) goes read.stopped

    fine : IsFine reading.form reading.lines reading.table
    fine = (subst (λ (r : Option VectorRefusal). CanGoOn r reading.form reading.lines reading.table reading.taken) goes safe.goes_on).0

    pub answers_going : early form text ≡ None
    answers_going =
        early_within form text stands.0 ∙ right_shown form text reading.lines reading.table false stands.1
        ∙ nothing_at_end (form.before + reading.table.place + 1) reading.table.due (begun reading.lines) fine.ended

    pub verdict_going : judgement form text ≡ said_by reading.table.due (record { vectors = reading.table.vectors.lists; scripts = reading.table.scripts.lists })
    verdict_going =
        let right = right_so_far form text reading.lines reading.table stands.1 in
        ap (λ o. unless_shown o (said_by (due_after form (whole_lines text)) (vectors_of form (whole_lines text)))) answers_going
        ∙ ap (λ (t : Table). said_by t.due (record { vectors = t.vectors.lists; scripts = t.scripts.lists })) (sym right.1)

-- a piece, of which so many bytes are within the limit
module _ (form : Form) (text piece : List ℕ) (n room : ℕ) (within : room ≤ limit) (e : length text ≡ limit - room) (taken : take n piece ≡ take room piece) where
  pub stopped_at : (refusal : VectorRefusal) (lines : PlainLines) (table : Table) → OrMemory refusal (shown_by form (text ++ take n piece) false ≡ Some refusal)
      → HasStopped form (text ++ piece) (Some refusal) lines table
  stopped_at refusal lines table h =
      stopped_as form (text ++ piece) refusal lines table
      (or_memory refusal (shown_by form (text ++ take n piece) false ≡ Some refusal) (early form (text ++ piece) ≡ Some refusal)
      (λ s. early_stays form text piece room refusal within e (subst (λ t. shown_by form (text ++ t) false ≡ Some refusal) taken s)) h)

  pub too_long_at : (refusal : VectorRefusal) (lines : PlainLines) (table : Table) → room < length piece → HasReadLines form (text ++ take n piece) lines table
      → end_refusal (form.before + table.place + 1) table.due [] true ≡ Some refusal → HasStopped form (text ++ piece) (Some refusal) lines table
  too_long_at refusal lines table long has ends =
      let read = subst (λ t. HasReadLines form (text ++ t) lines table) taken has in
      stopped_as form (text ++ piece) refusal lines table
      (fact_or refusal (early form (text ++ piece) ≡ Some refusal) (early_over form text piece room within e long
      ∙ right_shown form (text ++ take room piece) lines table true read ∙ more_at_end (form.before + table.place + 1) table.due (begun lines) ∙ ends))

  pub goes_on_at : (lines : PlainLines) (table : Table) → length piece ≤ room → HasReadLines form (text ++ take n piece) lines table → HasStopped form (text ++ piece) None lines table
  goes_on_at lines table short has =
      (omega (arith, length-append text piece), subst (λ t. HasReadLines form (text ++ t) lines table) (taken ∙ take_all room piece short) has)

pub if_err : {A : Type 0} (result : Result A VectorRefusal) (P Q : VectorRefusal → Type 0) → ((refusal : VectorRefusal) → P refusal → Q refusal)
    → IfErr result (λ refusal. OrMemory refusal (P refusal)) → IfErr result (λ refusal. OrMemory refusal (Q refusal))
if_err (Ok x) P Q f h = tt
if_err (Err refusal) P Q f h = or_memory refusal (P refusal) (Q refusal) (f refusal) h
