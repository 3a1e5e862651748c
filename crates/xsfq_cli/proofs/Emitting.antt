-- A text that was written, and the flush after it.
use Rattle.std.proofs.Common.{◌≡◌, ℕ, Bool, IsErr, IsOk, IsTrue, List, Option, Result, Ok, Err, refl, sym, subst, ◌∙◌}
use Rattle.std.specs.Prelude.{IfOk, OnOk}
use Rattle.std.specs.Io.KnownBytes.{Keeps}
use Rattle.std.proofs.KnownBytes.{Appends-kept}
use Rattle.byte_ports.specs.Causes.{HasCause, Rose}
use Rattle.byte_ports.specs.Writing.{WritesText}
use Rattle.byte_ports.proofs.CallerLemmas.{prefix_of_whole}
use Rattle.pulse_traces.specs.declared.scripts.CycleFault.{CycleFault}
use Rattle.pulse_traces.specs.Scripts.{Tells, without_fault}
use Rattle.run_outcomes.specs.declared.outcomes.Outcome.{Outcome}
use Rattle.xsfq_cli.specs.Halves.{Emits}
use Rattle.xsfq_cli.specs.Table.{output_of}

module _ {K D E : Type 0} (taken : K → Option (List ℕ)) (faults : K → ℕ) (flushed : K → Bool) (tells : List ℕ → Outcome → Type 0) (text : List ℕ) (ending : Outcome)
    (told : tells text ending) where
  -- the text was not written whole
  pub not_written : (old new : K) (first : Result Unit D) (failed : E) → IsErr first → WritesText (taken old) (taken new) (faults old) (faults new) first text
      → Emits tells (output_of taken faults flushed old new) (Err failed)
  not_written old new (Ok x) failed is wrote = cc
  not_written old new (Err x) failed is wrote = (text, ending, told, record { prefix = wrote.prefix; rose = wrote.cause.failed })

  -- it was written whole, and then the output was flushed, or not
  pub flushed_after : (old mid new : K) (first : Result Unit D) (second : Result Outcome E) → IsOk first → WritesText (taken old) (taken mid) (faults old) (faults mid) first text
      → Keeps (taken mid) (taken new) → HasCause (faults mid) (faults new) second → OnOk second (IsTrue (flushed new)) → IfOk second (λ same. same ≡ ending)
      → Emits tells (output_of taken faults flushed old new) second
  flushed_after old mid new (Err x) second ok wrote kept cause flush same = cc
  flushed_after old mid new (Ok x) (Ok outcome) ok wrote kept cause flush same = (
    text,
    subst (λ (o : Outcome). tells text o) (sym same) told,
    record {
      whole = Appends-kept (taken old) (taken mid) (taken new) text wrote.whole kept;
      calm = cause.kept ∙ wrote.cause.kept;
      flushed = flush;
    },
  )
  flushed_after old mid new (Ok x) (Err failed) ok wrote kept cause flush same = (
    text,
    ending,
    told,
    record {
      prefix = prefix_of_whole (taken old) (taken new) text (Appends-kept (taken old) (taken mid) (taken new) text wrote.whole kept);
      rose = subst (λ (n : ℕ). Rose n (faults new)) wrote.cause.kept cause.failed;
    },
  )

-- what a replay told
pub fault_told : {E : Type 0} (fault told : Option CycleFault) (result : Result (Option CycleFault) E) → result ≡ Ok told → Tells fault result → told ≡ fault
fault_told fault told (Ok its) e tells = let same : its ≡ told = cc in sym same ∙ tells
fault_told fault told (Err failed) e tells = cc

pub replay_written : {E : Type 0} (result : Result (Option CycleFault) E) (told : Option CycleFault) → result ≡ Ok told → IsOk (without_fault result)
replay_written {E} result told e = subst (λ (r : Result (Option CycleFault) E). IsOk (without_fault r)) (sym e) refl

pub replay_failed : {E : Type 0} (result : Result (Option CycleFault) E) (failed : E) → result ≡ Err failed → IsErr (without_fault result)
replay_failed {E} result failed e = subst (λ (r : Result (Option CycleFault) E). IsErr (without_fault r)) (sym e) refl
