-- A text beyond the limit of netlist texts shows a refusal, and no bytes show none.
use Rattle.std.proofs.Common.{◌≡◌, ℕ, ◌<◌, ◌≤◌, ◌^◌, List, [], ◌∷◌, length, Option, Some, None, refl, arith}
use Rattle.std.specs.Prelude.{option_map}
use Rattle.std.specs.Option.{option_or}
use Rattle.pulse_ids.specs.Quantities.{greatest_of}
use Rattle.pulse_ids.specs.declared.quantities.Quantity.TheVariants.{NetBytes}
use Rattle.netlist_reader.specs.declared.refusals.NetRefusal.{NetRefusal}
use Rattle.netlist_reader.specs.Verdicts.{after_end, early, lines_in}
use Rattle.netlist_reader.proofs.CallerLemmas.{long_has_rest}
use Rattle.xsfq_cli.specs.NetTexts.{net_shown, rest_refusal}
use Rattle.run_outcomes.specs.Outcomes.{net_outcome}

pub long_shown : (text : List ℕ) → greatest_of NetBytes < length text → net_shown text ≡ None → ⊥
long_shown text long quiet = by_early (early text) refl quiet
  where
    lines : ℕ
    lines = length (lines_in text)

    by_rest : (rest : List ℕ) → early text ≡ None → after_end text ≡ rest → option_map net_outcome (rest_refusal lines rest) ≡ None → ⊥
    by_rest [] none e quiet = long_has_rest text long none e
    by_rest (byte ∷ rest) none e quiet = cc

    by_early : (shown : Option NetRefusal) → early text ≡ shown → option_map net_outcome (option_or shown (rest_refusal lines (after_end text))) ≡ None → ⊥
    by_early None e quiet = by_rest (after_end text) e refl quiet
    by_early (Some refusal) e quiet = cc

pub no_net_quiet : net_shown [] ≡ None
no_net_quiet = refl

pub net_bytes_counted : greatest_of NetBytes ≤ 2 ^ 32
net_bytes_counted = omega arith
