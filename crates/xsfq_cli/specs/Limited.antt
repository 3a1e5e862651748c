-- A source beyond the limit shows a refusal, and no bytes show none.
use Rattle.std.proofs.Common.{◌≡◌, ℕ, ◌<◌, ◌≤◌, ◌^◌, true, false, ltb, List, [], length, take, Option, Some, None, refl, arith}
use Rattle.std.specs.Prelude.{option_map}
use Rattle.std.specs.Option.{option_or}
use Rattle.std.proofs.lemmas.Bool.{lt-ltb, le-ltb}
use Rattle.pulse_ids.specs.declared.quantities.Quantity.TheVariants as quantities
use Rattle.pulse_ids.specs.Quantities.{greatest_of}
use Rattle.source_machine.specs.declared.unset.Unset.TheVariants.{Refuse}
use Rattle.aiger_reader.specs.declared.refusals.AigerRefusal.{AigerRefusal}
use Rattle.aiger_reader.specs.declared.refusals.AigerRefusal.TheVariants as refusals
use Rattle.aiger_reader.specs.Sources.{limit, refusal_of, shown_by}
use Rattle.blif_reader.specs.declared.refusals.BlifRefusal.{BlifRefusal}
use Rattle.blif_reader.specs.declared.refusals.BlifRefusal.TheVariants as blif_refusals
use Rattle.blif_reader.specs.Sources as blif_sources
use Rattle.run_outcomes.specs.Outcomes.{aiger_outcome, blif_outcome}
use Rattle.xsfq_cli.specs.Sources.{SourceKind, Aiger, Blif, kind_of, shown_as, source_shown}

some_or : (shown : Option AigerRefusal) (refusal : AigerRefusal) → option_map aiger_outcome (option_or shown (Some refusal)) ≡ None → ⊥
some_or None refusal h = cc
some_or (Some x) refusal h = cc

blif_or : (shown : Option BlifRefusal) (refusal : BlifRefusal) → option_map blif_outcome (option_or shown (Some refusal)) ≡ None → ⊥
blif_or None refusal h = cc
blif_or (Some x) refusal h = cc

long_as : (kind : SourceKind) (text : List ℕ) → ltb (length text) 4 ≡ false → ltb limit (length text) ≡ true → shown_as kind text ≡ None → ⊥
long_as Aiger text many over h = some_or (option_map refusal_of (shown_by Refuse (take limit text))) (refusals.Limit quantities.SourceBytes) (rw (many, over) at h)
long_as Blif text many over h = blif_or (blif_sources.refusal_of (blif_sources.text_read Refuse (take limit text))) (blif_refusals.Limit quantities.SourceBytes) (rw over at h)

pub long_shown : (text : List ℕ) → 2 ^ 26 < length text → source_shown text ≡ None → ⊥
long_shown text long h =
    let many : ltb (length text) 4 ≡ false = le-ltb _ _ (omega arith) in
    let over : ltb limit (length text) ≡ true = lt-ltb _ _ long in
    long_as (kind_of text) text many over (rw many at h)

pub none_quiet : source_shown [] ≡ None
none_quiet = refl

pub source_bytes_counted : greatest_of quantities.SourceBytes ≤ 2 ^ 32
source_bytes_counted = omega arith
