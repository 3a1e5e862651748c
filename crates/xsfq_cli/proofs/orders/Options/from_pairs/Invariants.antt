-- The options so far with the words that are left are the options of all the words.
use Rattle.std.proofs.Common.{◌≡◌, ◌≤◌, ◌-◌, Some, map, length, drop}
use Rattle.std.specs.String.{string_bytes}
use Rattle.xsfq_cli.specs.Orders.{no_options, options_with}
use Rattle.xsfq_cli.proofs.orders.Options.from_pairs.Given as goal

abbrev pub invariant-loop-at : goal.invariant-loop-at
invariant-loop-at l = record {
  within : l.at ≤ length l.words;
  same : options_with (Some l.options) (map string_bytes (drop l.at l.words)) ≡ options_with (Some no_options) (map string_bytes l.words);
}

abbrev pub decreases-loop-at : goal.decreases-loop-at
decreases-loop-at l = length l.words - l.at
