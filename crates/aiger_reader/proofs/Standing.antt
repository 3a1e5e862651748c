-- What the first bytes of a source show is its verdict.
use Rattle.std.proofs.Common.{◌≡◌, ℕ, ◌<◌, ◌≤◌, Bool, true, false, cond, ltb, List, ◌++◌, length, take, Option, Some, None, Err, refl, sym, ap, ◌∙◌, arith}
use Rattle.std.specs.Prelude.{option_map}
use Rattle.std.specs.Option.{option_or}
use Rattle.std.proofs.lemmas.Bool.{ltb-true, ltb-false}
use Rattle.std.proofs.lemmas.List.{length-append}
use Rattle.pulse_ids.specs.declared.quantities.Quantity.TheVariants as quantities
use Rattle.source_machine.specs.declared.unset.Unset.{Unset}
use Rattle.aiger_reader.specs.declared.refusals.Shown.{Shown}
use Rattle.aiger_reader.specs.declared.refusals.AigerRefusal.{AigerRefusal}
use Rattle.aiger_reader.specs.declared.refusals.AigerRefusal.TheVariants as refusals
use Rattle.aiger_reader.specs.Sources.{limit, shown_by, early, too_long, refusal_of, judgement}
use Rattle.aiger_reader.specs.Laws.{EarlyStands}
use Rattle.aiger_reader.proofs.Limits.{within_stays, long_stays}
use Rattle.aiger_reader.proofs.Early.{early_shown, early_long}
use Rattle.aiger_reader.proofs.Judgements.{stopped_shown, judged_long}

-- the two ways to an early refusal
data Shows (unset : Unset) (text : List ℕ) (refusal : AigerRefusal) : Type 0 where
  a_unit : (shown : Shown) → 4 ≤ length text → shown_by unset (take limit text) ≡ Some shown → refusal ≡ refusal_of shown → Shows unset text refusal
  a_length : limit < length text → shown_by unset (take limit text) ≡ None → refusal ≡ refusals.Limit quantities.SourceBytes → Shows unset text refusal

by_length : (unset : Unset) (text : List ℕ) (refusal : AigerRefusal) (long : Bool) → ltb limit (length text) ≡ long → shown_by unset (take limit text) ≡ None
    → ◌≡◌ {A = Option AigerRefusal} (cond long (Some (refusals.Limit quantities.SourceBytes)) None) (Some refusal) → Shows unset text refusal
by_length unset text refusal true e none h = a_length (ltb-true _ _ e) none cc
by_length unset text refusal false e none h = absurd cc

by_shown : (unset : Unset) (text : List ℕ) (refusal : AigerRefusal) (first : Option Shown) → 4 ≤ length text → shown_by unset (take limit text) ≡ first
    → option_or (option_map refusal_of first) (too_long text) ≡ Some refusal → Shows unset text refusal
by_shown unset text refusal (Some shown) many e h = a_unit shown many e cc
by_shown unset text refusal None many e h = by_length unset text refusal (ltb limit (length text)) refl e h

by_count : (unset : Unset) (text : List ℕ) (refusal : AigerRefusal) (few : Bool) → ltb (length text) 4 ≡ few
    → cond few None (option_or (option_map refusal_of (shown_by unset (take limit text))) (too_long text)) ≡ Some refusal → Shows unset text refusal
by_count unset text refusal true e h = absurd cc
by_count unset text refusal false e h = by_shown unset text refusal (shown_by unset (take limit text)) (ltb-false _ _ e) refl h

stands_by : (unset : Unset) (text more : List ℕ) (refusal : AigerRefusal) → Shows unset text refusal → (early unset (text ++ more) ≡ Some refusal) × (judgement unset (text ++ more) ≡ Err refusal)
stands_by unset text more refusal (a_unit shown many h e) =
    let now = within_stays unset text more shown h in (
      early_shown unset (text ++ more) shown (omega (arith, many, length-append text more)) now ∙ ap (λ (r : AigerRefusal). Some r) (sym e),
      stopped_shown unset (text ++ more) shown now ∙ ap (λ (r : AigerRefusal). Err r) (sym e),
    )
stands_by unset text more refusal (a_length long h e) =
    let now = long_stays unset text more long h in
    let shown : early unset (text ++ more) ≡ Some refusal = early_long unset (text ++ more) now.0 now.1 ∙ ap (λ (r : AigerRefusal). Some r) (sym e) in
    (shown, judged_long unset (text ++ more) refusal now.0 shown)

pub early_stands : EarlyStands
early_stands = record {
  shown = λ unset text more refusal h. (stands_by unset text more refusal (by_count unset text refusal (ltb (length text) 4) refl h)).0;
  judged = λ unset text more refusal h. (stands_by unset text more refusal (by_count unset text refusal (ltb (length text) 4) refl h)).1;
}
