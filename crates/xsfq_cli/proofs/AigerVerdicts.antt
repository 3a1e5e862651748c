-- The verdicts of AIGER sources: each has at most one, and a refusal is one of the bytes.
use Rattle.std.proofs.Common.{◌≡◌, ℕ, Bool, true, false, List, [], ◌∷◌, length, decimal, Some, None, Ok, Err, refl, sym, ap, ◌∙◌}
use Rattle.std.specs.Prelude.{option_map, unwrap_or, nat_lt, if◌then◌else◌, take}
use Rattle.std.specs.Option.{option_or}
use Rattle.std.specs.declared.option.Option.{Option}
use Rattle.std.specs.declared.result.Result.{Result}
use Rattle.pulse_ids.specs.declared.quantities.Quantity.TheVariants as quantities
use Rattle.source_machine.specs.declared.places.Place.{Place}
use Rattle.source_machine.specs.declared.unset.Unset.{Unset}
use Rattle.source_machine.specs.Machines.{PlainMachine}
use Rattle.source_machine.specs.Grounding.{Refusal, IsFirstRefusal, driven_twice, undriven, ungrounded}
use Rattle.source_machine.specs.Laws.{FoundedIsNotRefused, RefusalsAreEqual}
use Rattle.aiger_reader.specs.declared.headers.Header.{Header}
use Rattle.aiger_reader.specs.declared.refusals.AigerCause.{AigerCause}
use Rattle.aiger_reader.specs.declared.refusals.AigerCause.TheVariants as causes
use Rattle.aiger_reader.specs.declared.refusals.AigerFault.{AigerFault}
use Rattle.aiger_reader.specs.declared.refusals.AigerRefusal.{AigerRefusal}
use Rattle.aiger_reader.specs.declared.refusals.AigerRefusal.TheVariants as refusals
use Rattle.aiger_reader.specs.declared.refusals.Shown.{Shown}
use Rattle.aiger_reader.specs.declared.refusals.UnitRefusal.{UnitRefusal}
use Rattle.aiger_reader.specs.declared.refusals.UnitRefusal.TheVariants as unit_refusals
use Rattle.aiger_reader.specs.Headers.{header_in}
use Rattle.aiger_reader.specs.Sources.{IsMachineCause, IsMachineRefusal, IsVerdictOf, all_units, complete, first_refusal, judgement, limit, refusal_at, refusal_of, shown_by, unless_shown, whole_source}

-- the cause that tells a machine's refusal
abbrev cause_of : Refusal → AigerCause
cause_of (driven_twice net) = causes.DoubleDriver (decimal net)
cause_of (undriven net) = causes.Undriven (decimal net)
cause_of (ungrounded net) = causes.Cycle (decimal net)

told_by : (machine : PlainMachine) (cause : AigerCause) → IsMachineCause machine cause → (refusal : Refusal) × IsFirstRefusal machine refusal × (cause ≡ cause_of refusal)
told_by machine (causes.DoubleDriver name) is = (driven_twice is.0, is.2, ap (λ n. causes.DoubleDriver n) is.1)
told_by machine (causes.Undriven name) is = (undriven is.0, is.2, ap (λ n. causes.Undriven n) is.1)
told_by machine (causes.Cycle name) is = (ungrounded is.0, is.2, ap (λ n. causes.Cycle n) is.1)
told_by machine causes.BadHeader is = absurd is
told_by machine (causes.Property letter) is = absurd is
told_by machine causes.BadLine is = absurd is
told_by machine (causes.OutOfRange literal) is = absurd is
told_by machine (causes.NoFixedInit latch) is = absurd is
told_by machine causes.BadDelta is = absurd is
told_by machine causes.SymbolRange is = absurd is
told_by machine causes.Truncated is = absurd is

same_fault : (one other : AigerFault) → one.place ≡ other.place → one.cause ≡ other.cause → one ≡ other
same_fault one other e d =
    let with_place : Place → AigerFault = λ place. record { place = place; cause = one.cause } in
    let with_cause : AigerCause → AigerFault = λ cause. record { place = other.place; cause = cause } in
    ap with_place e ∙ ap with_cause d

module _ (founded : FoundedIsNotRefused) (equal : RefusalsAreEqual) where
  causes_equal : (machine : PlainMachine) (one other : AigerCause) → IsMachineCause machine one → IsMachineCause machine other → one ≡ other
  causes_equal machine one other is are =
      let first = told_by machine one is in
      let second = told_by machine other are in
      first.2 ∙ ap cause_of (equal machine first.0 second.0 first.1 second.1) ∙ sym second.2

  refusals_equal : (machine : PlainMachine) (one other : AigerRefusal) → IsMachineRefusal machine one → IsMachineRefusal machine other → one ≡ other
  refusals_equal machine (refusals.Fault one) (refusals.Fault other) is are =
      ap (λ fault. refusals.Fault fault) (same_fault one other (is.0 ∙ sym are.0) (causes_equal machine one.cause other.cause is.1 are.1))
  refusals_equal machine (refusals.Fault one) (refusals.Limit quantity) is are = absurd are
  refusals_equal machine (refusals.Fault one) refusals.NoMemory is are = absurd are
  refusals_equal machine (refusals.Limit quantity) other is are = absurd is
  refusals_equal machine refusals.NoMemory other is are = absurd is

  -- a machine that is refused is not well founded
  founded_or_refused : (machine : PlainMachine) (refusal : AigerRefusal) → IsVerdictOf (Ok machine) (Ok machine) → IsMachineRefusal machine refusal → ⊥
  founded_or_refused machine (refusals.Fault fault) (same, well) is =
      let told = told_by machine fault.cause is.1 in founded machine well told.0 told.1
  founded_or_refused machine (refusals.Limit quantity) (same, well) is = is
  founded_or_refused machine refusals.NoMemory (same, well) is = is

  -- a judgement has one verdict
  pub one_verdict_of : (judged : Result PlainMachine AigerRefusal) (one other : Result PlainMachine AigerRefusal) → IsVerdictOf judged one → IsVerdictOf judged other → one ≡ other
  one_verdict_of (Ok machine) (Ok one) (Ok other) (e, f) (d, g) = ap (λ m. Ok m) (e ∙ sym d)
  one_verdict_of (Ok machine) (Ok one) (Err refusal) (e, f) is = absurd (founded_or_refused machine refusal (refl, f) is)
  one_verdict_of (Ok machine) (Err refusal) (Ok other) is (d, g) = absurd (founded_or_refused machine refusal (refl, g) is)
  one_verdict_of (Ok machine) (Err one) (Err other) is are = ap (λ r. Err r) (refusals_equal machine one other is are)
  one_verdict_of (Err refusal) (Ok one) other is are = absurd is
  one_verdict_of (Err refusal) (Err one) (Ok other) is are = absurd are
  one_verdict_of (Err refusal) (Err one) (Err other) is are = ap (λ r. Err r) (is ∙ sym are)

-- the refusal is one of the bytes, and not want of memory
abbrev pub IsOfBytes : AigerRefusal → Type 0
IsOfBytes refusals.NoMemory = ⊥
IsOfBytes refusal = Unit

unit_of_bytes : (place : Place) (refusal : UnitRefusal) → IsOfBytes (refusal_at place refusal)
unit_of_bytes place unit_refusals.BadHeader = tt
unit_of_bytes place (unit_refusals.Property letter) = tt
unit_of_bytes place unit_refusals.BadLine = tt
unit_of_bytes place (unit_refusals.OutOfRange literal) = tt
unit_of_bytes place (unit_refusals.NoFixedInit latch) = tt
unit_of_bytes place unit_refusals.BadDelta = tt
unit_of_bytes place unit_refusals.SymbolRange = tt
unit_of_bytes place (unit_refusals.Limit quantity) = tt

early_of_bytes : (few long : Bool) (shown : Option Shown)
    → IsOfBytes (unwrap_or (if few then None else option_or (option_map refusal_of shown) (if long then Some (refusals.Limit quantities.SourceBytes) else None))
    (refusals.Limit quantities.SourceBytes))
early_of_bytes true long shown = tt
early_of_bytes false long (Some shown) = unit_of_bytes shown.place shown.refusal
early_of_bytes false true None = tt
early_of_bytes false false None = tt

-- where a judgement is a refusal, it is one of the bytes
abbrev pub RefusesBytes : Result PlainMachine AigerRefusal → Type 0
RefusesBytes (Ok machine) = Unit
RefusesBytes (Err refusal) = IsOfBytes refusal

cut_of_bytes : (cut : Bool) (refusal : AigerRefusal) (machine : PlainMachine) → IsOfBytes refusal
    → RefusesBytes (if cut then Err refusal else Ok machine)
cut_of_bytes true refusal machine is = is
cut_of_bytes false refusal machine is = tt

complete_of_bytes : (unset : Unset) (header : Option Header) (units : List (List ℕ)) (bytes : ℕ) → RefusesBytes (complete unset header units bytes)
complete_of_bytes unset None units bytes = tt
complete_of_bytes unset (Some header) units bytes = cut_of_bytes _ _ _ tt

whole_of_bytes : (unset : Unset) (units : List (List ℕ)) (bytes : ℕ) → RefusesBytes (whole_source unset units bytes)
whole_of_bytes unset [] bytes = tt
whole_of_bytes unset (header ∷ units) bytes = complete_of_bytes unset (header_in header) units bytes

unless_of_bytes : (shown : Option Shown) (others : Result PlainMachine AigerRefusal) → RefusesBytes others → RefusesBytes (unless_shown shown others)
unless_of_bytes None others is = is
unless_of_bytes (Some shown) others is = unit_of_bytes shown.place shown.refusal

either_of_bytes : (long : Bool) (refusal : AigerRefusal) (others : Result PlainMachine AigerRefusal) → IsOfBytes refusal → RefusesBytes others
    → RefusesBytes (if long then Err refusal else others)
either_of_bytes true refusal others is are = is
either_of_bytes false refusal others is are = are

judged_of_bytes : (unset : Unset) (text : List ℕ) → RefusesBytes (judgement unset text)
judged_of_bytes unset text =
    either_of_bytes (nat_lt limit (length text)) _ _
    (early_of_bytes (nat_lt (length text) 4) (nat_lt limit (length text)) (shown_by unset (take limit text)))
    (unless_of_bytes (first_refusal unset [] (all_units text)) _ (whole_of_bytes unset (all_units text) (length text)))

verdict_by : (judged : Result PlainMachine AigerRefusal) (refusal : AigerRefusal) → RefusesBytes judged → IsVerdictOf judged (Err refusal) → IsOfBytes refusal
verdict_by (Ok machine) (refusals.Fault fault) of is = tt
verdict_by (Ok machine) (refusals.Limit quantity) of is = tt
verdict_by (Ok machine) refusals.NoMemory of is = is
verdict_by (Err other) (refusals.Fault fault) of is = tt
verdict_by (Err other) (refusals.Limit quantity) of is = tt
verdict_by (Err refusals.NoMemory) refusals.NoMemory of is = of
verdict_by (Err (refusals.Fault fault)) refusals.NoMemory of is = cc
verdict_by (Err (refusals.Limit quantity)) refusals.NoMemory of is = cc

-- the verdict of a source is never want of memory
pub verdict_of_bytes : (unset : Unset) (text : List ℕ) (refusal : AigerRefusal) → IsVerdictOf (judgement unset text) (Err refusal) → IsOfBytes refusal
verdict_of_bytes unset text refusal is = verdict_by (judgement unset text) refusal (judged_of_bytes unset text) is
