-- What reading an input piece by piece comes to.
use Rattle.std.proofs.Common.{◌≡◌, ◌≤◌, ◌<◌, ◌⊎◌, inl, inr, ℕ, Bool, true, false, ltb, ltb-true, ltb-false, List, [], ◌++◌, length, take, drop, Option, Some, None, Result, Ok, Err, refl, sym, ap, subst, ◌∙◌, arith, append-nil, length-append, take-append-drop}
use Rattle.std.proofs.lemmas.List.{take-append-le}
use Rattle.std.proofs.Math.Seq.{take-append_seam}
use Rattle.std.specs.Io.KnownBytes.{Consumes, Keeps, IsAtEnd}
use Rattle.std.proofs.KnownBytes.{Consumes-trans, Consumes-kept}
use Rattle.byte_ports.specs.Causes.{Rose}
use Rattle.run_outcomes.specs.declared.outcomes.Outcome.{Outcome}
use Rattle.run_outcomes.specs.declared.outcomes.Outcome.TheVariants as outcomes
use Rattle.xsfq_cli.specs.Answering.{IsEarly, IsOrNoMemory, Tells}
use Rattle.xsfq_cli.specs.Halves.{Reads}
use Rattle.xsfq_cli.specs.Table.{Input, Leaves, Took, Refused, Stops, ReadWhole}

-- the first bytes of a text are the first ones of its beginning, where that is not shorter
begins_with : (bytes piece first more : List ℕ) → bytes ++ piece ≡ first ++ more → length first ≤ length bytes → bytes ≡ first ++ drop (length first) bytes
begins_with bytes piece first more e short =
    let same : take (length first) bytes ≡ first =
    sym (take-append-le (length first) bytes piece short) ∙ ap (take (length first)) e ∙ take-append_seam first more in
    sym (take-append-drop (length first) bytes) ∙ ap (λ l. l ++ drop (length first) bytes) same

-- bytes of which the first show a refusal show one
shown_on : {A : Type 0} (shows : List ℕ → Option Outcome) (judges : List ℕ → Result A Outcome → Type 0) (bytes first more : List ℕ) (refusal : Outcome)
    → IsEarly shows judges → bytes ≡ first ++ more → shows first ≡ Some refusal → shows bytes ≡ None → ⊥
shown_on shows judges bytes first more refusal early e shown none =
    let there : shows bytes ≡ Some refusal = ap shows e ∙ early.stays first more refusal shown in
    let both : Some refusal ≡ None = sym there ∙ none in cc

-- bytes that show no refusal, and a piece after them
past_piece : {A : Type 0} (shows : List ℕ → Option Outcome) (judges : List ℕ → Result A Outcome → Type 0) (bytes piece : List ℕ) → IsEarly shows judges
    → shows bytes ≡ None → length piece ≤ 4096
    → (first more : List ℕ) (refusal : Outcome) → bytes ++ piece ≡ first ++ more → shows first ≡ Some refusal → length more ≤ 4095
past_piece shows judges bytes piece early none few first more refusal e shown = go (ltb (length bytes) (length first)) refl
  where
    go : (b : Bool) → ltb (length bytes) (length first) ≡ b → length more ≤ 4095
    go true long =
        let longer : length bytes < length first = ltb-true _ _ long in
        let sums : length (bytes ++ piece) ≡ length (first ++ more) = ap length e in
        omega (arith, length-append bytes piece, length-append first more, sums, longer)
    go false short =
        absurd (shown_on shows judges bytes first (drop (length first) bytes) refusal early (begins_with bytes piece first more e (ltb-false _ _ short)) shown none)

-- nothing was taken after these bytes, which show no refusal
took_so_far : {A : Type 0} (shows : List ℕ → Option Outcome) (judges : List ℕ → Result A Outcome → Type 0) (input : Input) (bytes : List ℕ) → IsEarly shows judges
    → Consumes input.before input.now bytes → shows bytes ≡ None → Took shows input bytes
took_so_far shows judges input bytes early consumed none = record {
  consumed = consumed;
  past = λ first more refusal e shown. absurd (shown_on shows judges bytes first more refusal early e shown none);
}

-- the rest of an input after these bytes
refused_with_rest : {A : Type 0} (shows : List ℕ → Option Outcome) (judges : List ℕ → Result A Outcome → Type 0) (input : Input) (bytes : List ℕ) (outcome : Outcome)
    → input.faults_now ≡ input.faults → Took shows input bytes → ((rest : List ℕ) → Leaves input.now rest → judges (bytes ++ rest) (Err outcome))
    → Refused shows (λ bytes refusal. judges bytes (Err refusal)) input outcome
refused_with_rest shows judges input bytes outcome calm took f = go input.now refl
  where
    go : (now : Option (List ℕ)) → input.now ≡ now → Refused shows (λ bytes refusal. judges bytes (Err refusal)) input outcome
    go None e =
        let leaves : Leaves input.now [] = subst (λ (o : Option (List ℕ)). Leaves o []) (sym e) tt in
        record { calm = calm; taken = bytes; took = took; rest = []; leaves = leaves; refuses_all = f [] leaves }
    go (Some rest) e =
        let leaves : Leaves input.now rest = subst (λ (o : Option (List ℕ)). Leaves o rest) (sym e) refl in
        record { calm = calm; taken = bytes; took = took; rest = rest; leaves = leaves; refuses_all = f rest leaves }

-- a read failed
pub failed_after : {A : Type 0} (shows : List ℕ → Option Outcome) (judges : List ℕ → Result A Outcome → Type 0) (old mid new : Option (List ℕ)) (before then now : ℕ)
    (bytes : List ℕ) → IsEarly shows judges → Consumes old mid bytes → then ≡ before → shows bytes ≡ None → Keeps mid new → Rose then now
    → Stops shows (λ bytes refusal. judges bytes (Err refusal)) (record { before = old; now = new; faults = before; faults_now = now }) outcomes.ReadFault
failed_after shows judges old mid new before then now bytes early took calm none kept rose =
    inr (inl (
      refl,
      record {
        rose = subst (λ n. Rose n now) calm rose;
        taken = bytes;
        took = took_so_far shows judges _ bytes early (Consumes-kept old mid new bytes took kept) none;
        silent = none;
      },
    ))

-- a piece shows a refusal with the bytes before it, or memory was refused
pub refused_after : {A : Type 0} (shows : List ℕ → Option Outcome) (judges : List ℕ → Result A Outcome → Type 0) (old mid new : Option (List ℕ)) (before then now : ℕ)
    (bytes piece : List ℕ) (outcome : Outcome) → IsEarly shows judges → Consumes old mid bytes → then ≡ before → shows bytes ≡ None
    → Consumes mid new piece → now ≡ then → length piece ≤ 4096 → Tells {A = Unit {0}} (shows (bytes ++ piece)) (Err outcome)
    → Stops shows (λ bytes refusal. judges bytes (Err refusal)) (record { before = old; now = new; faults = before; faults_now = now }) outcome
refused_after {A} shows judges old mid new before then now bytes piece outcome early took calm none more same few told = go told
  where
    input : Input
    input = record { before = old; now = new; faults = before; faults_now = now }

    all : Took shows input (bytes ++ piece)
    all = record {
      consumed = Consumes-trans old mid new bytes piece took more;
      past = past_piece shows judges bytes piece early none few;
    }

    go : (outcome ≡ outcomes.NoMemory) ⊎ (shows (bytes ++ piece) ≡ Some outcome) → Stops shows (λ bytes refusal. judges bytes (Err refusal)) input outcome
    go (inl e) = inr (inr (e, record { calm = same ∙ calm; taken = bytes ++ piece; took = all }))
    go (inr e) = inl (refused_with_rest shows judges input (bytes ++ piece) outcome (same ∙ calm) all (λ rest _. early.final (bytes ++ piece) rest outcome e))

-- the input has ended
pub whole_after : {A : Type 0} (shows : List ℕ → Option Outcome) (judges : List ℕ → Result A Outcome → Type 0) (old mid new : Option (List ℕ)) (before then now : ℕ)
    (bytes : List ℕ) → IsEarly shows judges → Consumes old mid bytes → then ≡ before → shows bytes ≡ None → Consumes mid new [] → IsAtEnd new → now ≡ then
    → ReadWhole shows (record { before = old; now = new; faults = before; faults_now = now }) bytes
whole_after shows judges old mid new before then now bytes early took calm none more ended same =
    let all : Consumes old new bytes = subst (λ (l : List ℕ). Consumes old new l) (append-nil bytes) (Consumes-trans old mid new bytes [] took more) in
    record {
      calm = same ∙ calm;
      took = took_so_far shows judges _ bytes early all none;
      ended = ended;
    }

leaves_none : (now : Option (List ℕ)) → IsAtEnd now → Leaves now []
leaves_none None ended = tt
leaves_none (Some rest) ended = ended

-- what a reader makes of an input that it has read whole
pub finished : {A : Type 0} (shows : List ℕ → Option Outcome) (judges : List ℕ → Result A Outcome → Type 0) (input : Input) (bytes : List ℕ) (result : Result A Outcome)
    → ReadWhole shows input bytes → IsOrNoMemory (judges bytes) result → Reads shows judges input result
finished shows judges input bytes (Ok x) whole judged = (bytes, whole, judged)
finished shows judges input bytes (Err outcome) whole (inl e) = inr (inr (e, record { calm = whole.calm; taken = bytes; took = whole.took }))
finished shows judges input bytes (Err outcome) whole (inr judged) = inl (record {
  calm = whole.calm;
  taken = bytes;
  took = whole.took;
  rest = [];
  leaves = leaves_none input.now whole.ended;
  refuses_all = subst (λ (l : List ℕ). judges l (Err outcome)) (sym (append-nil bytes)) judged;
})

-- a refusal in other words
pub stops_as : (shows : List ℕ → Option Outcome) (one other : List ℕ → Outcome → Type 0) (input : Input) (outcome : Outcome)
    → ((bytes : List ℕ) → one bytes outcome → other bytes outcome) → Stops shows one input outcome → Stops shows other input outcome
stops_as shows one other input outcome f (inl refused) = inl (record {
  calm = refused.calm;
  taken = refused.taken;
  took = refused.took;
  rest = refused.rest;
  leaves = refused.leaves;
  refuses_all = f (refused.taken ++ refused.rest) refused.refuses_all;
})
stops_as shows one other input outcome f (inr unread) = inr unread
