-- An input of `simulate` beyond the limits of both of its texts shows a refusal, and no bytes show none.
use Rattle.std.proofs.Common.{◌≡◌, ℕ, ◌+◌, ◌<◌, ◌≤◌, ◌^◌, Bool, true, false, List, [], length, Option, Some, None, refl, arith}
use Rattle.std.specs.Prelude.{option_map}
use Rattle.pulse_ids.specs.Quantities.{greatest_of}
use Rattle.pulse_ids.specs.declared.quantities.Quantity.TheVariants.{NetBytes, TailBytes}
use Rattle.simulation_reader.specs.declared.refusals.InputRefusal.{InputRefusal}
use Rattle.simulation_reader.specs.InputTexts.{early}
use Rattle.simulation_reader.proofs.CallerLemmas.{long-shows}
use Rattle.run_outcomes.specs.Outcomes.{input_outcome}
use Rattle.xsfq_cli.specs.Simulated.{input_shown}

quiet_early : (shown : Option InputRefusal) → option_map input_outcome shown ≡ None → shown ≡ None
quiet_early None e = refl
quiet_early (Some refusal) e = cc

pub long_input_shown : (with_scripts : Bool) (text : List ℕ) → greatest_of NetBytes + greatest_of TailBytes < length text → input_shown with_scripts text ≡ None → ⊥
long_input_shown with_scripts text long quiet = long-shows with_scripts text long (quiet_early (early with_scripts text) quiet)

pub no_input_quiet : (with_scripts : Bool) → input_shown with_scripts [] ≡ None
no_input_quiet with_scripts = refl

pub input_bytes_counted : greatest_of NetBytes + greatest_of TailBytes ≤ 2 ^ 32
input_bytes_counted = omega arith
