-- A note that was written, and the flush after it.
use Rattle.std.proofs.Common.{◌≡◌, ◌<◌, ◌-◌, ◌^◌, ℕ, Bool, IsTrue, IsOk, List, Option, Result, Ok, Err, refl, subst, arith}
use Rattle.std.specs.Io.KnownBytes.{Appends, Keeps}
use Rattle.std.proofs.KnownBytes.{Appends-kept}
use Rattle.byte_ports.specs.Causes.{Rose, HasCause}
use Rattle.byte_ports.specs.Writing.{WritesText}
use Rattle.byte_ports.proofs.CallerLemmas.{prefix_of_whole}
use Rattle.run_outcomes.specs.declared.outcomes.Outcome.{Outcome}
use Rattle.run_outcomes.specs.declared.outcomes.Outcome.TheVariants as outcomes
use Rattle.run_outcomes.specs.Notes.{note_of}
use Rattle.xsfq_cli.specs.Table.{Noted, output_of}

-- a count below its greatest value that stayed did not rise
pub stayed : (before now : ℕ) → before < 2 ^ 64 - 1 → now ≡ before → Rose before now → ⊥
stayed before now less same rose = omega (arith, rose)

module _ {K D E : Type 0} (taken : K → Option (List ℕ)) (faults : K → ℕ) (flushed : K → Bool) (old mid new : K) (outcome : Outcome)
    (less : faults old < 2 ^ 64 - 1) (other : outcome ≡ outcomes.Done → ⊥) where
  -- the note was written, and the notes were flushed, or failed then
  pub noted_flushed : (first : Result Unit D) (second : Result Unit E) → IsOk first
      → WritesText (taken old) (taken mid) (faults old) (faults mid) first (note_of outcome) → Keeps (taken mid) (taken new)
      → HasCause (faults mid) (faults new) second → (IsOk second → IsTrue (flushed new)) → Noted (output_of taken faults flushed old new) outcome
  noted_flushed (Err x) second ok w kept cause done = cc
  noted_flushed (Ok x) second ok w kept cause done =
      let all : Appends (taken old) (taken new) (note_of outcome) = Appends-kept (taken old) (taken mid) (taken new) (note_of outcome) w.whole kept in
      record {
        prefix = prefix_of_whole (taken old) (taken new) (note_of outcome) all;
        whole = λ calm. all;
        flushed = λ d calm. by_flush second cause done calm;
        none = λ d. absurd (other d);
      }
    where
      by_flush : (second : Result Unit E) → HasCause (faults mid) (faults new) second → (IsOk second → IsTrue (flushed new)) → faults new ≡ faults old → IsTrue (flushed new)
      by_flush (Ok y) cause done calm = done refl
      by_flush (Err y) cause done calm =
          absurd (stayed (faults old) (faults new) less calm (subst (λ n. Rose n (faults new)) w.cause.kept cause.failed))
