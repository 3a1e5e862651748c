-- The verdicts of BLIF sources: each has at most one, and a refusal is one of the bytes.
use Rattle.std.proofs.Common.{◌≡◌, ℕ, ◌-◌, List, [], Option, Some, Ok, Err, refl, sym, ap, ◌∙◌}
use Rattle.std.specs.Prelude.{slice_get, unwrap_or}
use Rattle.std.specs.declared.result.Result.{Result}
use Rattle.source_machine.specs.declared.places.Place.{Place}
use Rattle.source_machine.specs.declared.unset.Unset.{Unset}
use Rattle.source_machine.specs.Machines.{PlainMachine}
use Rattle.source_machine.specs.Grounding.{Refusal, IsFirstRefusal, driven_twice, undriven, ungrounded}
use Rattle.source_machine.specs.Laws.{FoundedIsNotRefused, RefusalsAreEqual}
use Rattle.blif_reader.specs.declared.refusals.BlifCause.{BlifCause}
use Rattle.blif_reader.specs.declared.refusals.BlifCause.TheVariants as causes
use Rattle.blif_reader.specs.declared.refusals.BlifFault.{BlifFault}
use Rattle.blif_reader.specs.declared.refusals.BlifRefusal.{BlifRefusal}
use Rattle.blif_reader.specs.declared.refusals.BlifRefusal.TheVariants as refusals
use Rattle.blif_reader.specs.Sources.{PlainSource, IsMachineCause, IsMachineRefusal, IsVerdictOf, judgement}
use Rattle.blif_reader.specs.Laws.{IsOfBytes, SourcesAreTold}

abbrev name_of : List (List ℕ) → ℕ → List ℕ
name_of nets net = unwrap_or (slice_get nets (net - 1)) []

-- the cause that tells a machine's refusal
abbrev cause_of : List (List ℕ) → Refusal → BlifCause
cause_of nets (driven_twice net) = causes.DoubleDriver (name_of nets net)
cause_of nets (undriven net) = causes.Undriven (name_of nets net)
cause_of nets (ungrounded net) = causes.Cycle (name_of nets net)

named : (nets : List (List ℕ)) (net : ℕ) (name : List ℕ) → slice_get nets (net - 1) ≡ Some name → name ≡ name_of nets net
named nets net name is = sym (ap (λ (o : Option (List ℕ)). unwrap_or o []) is)

told_by : (source : PlainSource) (cause : BlifCause) → IsMachineCause source cause → (refusal : Refusal) × IsFirstRefusal source.machine refusal × (cause ≡ cause_of source.nets refusal)
told_by source (causes.DoubleDriver name) is = (driven_twice is.0, is.2, ap (λ (n : List ℕ). causes.DoubleDriver n) (named source.nets is.0 name is.1))
told_by source (causes.Undriven name) is = (undriven is.0, is.2, ap (λ (n : List ℕ). causes.Undriven n) (named source.nets is.0 name is.1))
told_by source (causes.Cycle name) is = (ungrounded is.0, is.2, ap (λ (n : List ℕ). causes.Cycle n) (named source.nets is.0 name is.1))
told_by source causes.BadWord is = absurd is
told_by source causes.NoModel is = absurd is
told_by source causes.SecondModel is = absurd is
told_by source causes.AfterEnd is = absurd is
told_by source (causes.Unsupported word) is = absurd is
told_by source causes.RowShape is = absurd is
told_by source causes.MixedCover is = absurd is
told_by source causes.StrayRow is = absurd is
told_by source causes.LatchType is = absurd is
told_by source causes.MixedClock is = absurd is
told_by source (causes.NoFixedInit name) is = absurd is
told_by source (causes.ClockAsData name) is = absurd is
told_by source (causes.DerivedClock name) is = absurd is

same_fault : (one other : BlifFault) → one.place ≡ other.place → one.cause ≡ other.cause → one ≡ other
same_fault one other e d =
    let with_place : Place → BlifFault = λ place. record { place = place; cause = one.cause } in
    let with_cause : BlifCause → BlifFault = λ cause. record { place = other.place; cause = cause } in
    ap with_place e ∙ ap with_cause d

module _ (founded : FoundedIsNotRefused) (equal : RefusalsAreEqual) where
  causes_equal : (source : PlainSource) (one other : BlifCause) → IsMachineCause source one → IsMachineCause source other → one ≡ other
  causes_equal source one other is are =
      let first = told_by source one is in
      let second = told_by source other are in
      first.2 ∙ ap (cause_of source.nets) (equal source.machine first.0 second.0 first.1 second.1) ∙ sym second.2

  refusals_equal : (source : PlainSource) (one other : BlifRefusal) → IsMachineRefusal source one → IsMachineRefusal source other → one ≡ other
  refusals_equal source (refusals.Fault one) (refusals.Fault other) is are =
      ap (λ fault. refusals.Fault fault) (same_fault one other (is.0 ∙ sym are.0) (causes_equal source one.cause other.cause is.1 are.1))
  refusals_equal source (refusals.Fault one) (refusals.Limit quantity) is are = absurd are
  refusals_equal source (refusals.Fault one) refusals.NoMemory is are = absurd are
  refusals_equal source (refusals.Limit quantity) other is are = absurd is
  refusals_equal source refusals.NoMemory other is are = absurd is

  -- a machine that is refused is not well founded
  founded_or_refused : (source : PlainSource) (refusal : BlifRefusal) → IsVerdictOf (Ok source) (Ok source.machine) → IsMachineRefusal source refusal → ⊥
  founded_or_refused source (refusals.Fault fault) (same, well) is =
      let told = told_by source fault.cause is.1 in founded source.machine well told.0 told.1
  founded_or_refused source (refusals.Limit quantity) (same, well) is = is
  founded_or_refused source refusals.NoMemory (same, well) is = is

  -- a judgement has one verdict
  pub one_blif : (judged : Result PlainSource BlifRefusal) (one other : Result PlainMachine BlifRefusal) → IsVerdictOf judged one → IsVerdictOf judged other → one ≡ other
  one_blif (Ok source) (Ok one) (Ok other) (e, f) (d, g) = ap (λ m. Ok m) (e ∙ sym d)
  one_blif (Ok source) (Ok one) (Err refusal) (e, f) is = absurd (founded_or_refused source refusal (refl, f) is)
  one_blif (Ok source) (Err refusal) (Ok other) is (d, g) = absurd (founded_or_refused source refusal (refl, g) is)
  one_blif (Ok source) (Err one) (Err other) is are = ap (λ r. Err r) (refusals_equal source one other is are)
  one_blif (Err refusal) (Ok one) other is are = absurd is
  one_blif (Err refusal) (Err one) (Ok other) is are = absurd are
  one_blif (Err refusal) (Err one) (Err other) is are = ap (λ r. Err r) (is ∙ sym are)

verdict_by : (judged : Result PlainSource BlifRefusal) (refusal : BlifRefusal) → ((other : BlifRefusal) → judged ≡ Err other → IsOfBytes other) → IsVerdictOf judged (Err refusal) → IsOfBytes refusal
verdict_by (Ok source) (refusals.Fault fault) of is = tt
verdict_by (Ok source) (refusals.Limit quantity) of is = tt
verdict_by (Ok source) refusals.NoMemory of is = is
verdict_by (Err other) (refusals.Fault fault) of is = tt
verdict_by (Err other) (refusals.Limit quantity) of is = tt
verdict_by (Err other) refusals.NoMemory of is = of refusals.NoMemory (ap (λ r. Err r) (sym is))

-- the verdict of a source is never want of memory
pub blif_of_bytes : SourcesAreTold → (unset : Unset) (text : List ℕ) (refusal : BlifRefusal) → IsVerdictOf (judgement unset text) (Err refusal) → IsOfBytes refusal
blif_of_bytes told unset text refusal is = verdict_by (judgement unset text) refusal (λ other e. told.of_bytes unset text other e) is
