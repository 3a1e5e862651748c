-- Each is computed.
use Rattle.std.proofs.Common.{refl}
use Rattle.xsfq_cli.proofs.laws.words_are_orders.Goals as goal

pub returns : goal.returns
returns c = record {
  bare = refl;
  first_format = refl;
  second_format = refl;
  rails_and_format = refl;
  format_twice = refl;
  other_format = refl;
  check_with_format = refl;
  simulate_with_format = refl;
  positive = refl;
  negative = refl;
  both = refl;
  nothing = refl;
  twice = refl;
  no_value = refl;
  other_value = refl;
  other_option = refl;
  check = refl;
  check_with_rails = refl;
  report = refl;
  report_with_rails = refl;
  check_with_order = refl;
  simulate = refl;
  simulate_last = refl;
  simulate_mixed = refl;
  simulate_scripts = refl;
  leading_zero = refl;
  no_number = refl;
  great_number = refl;
  simulate_with_rails = refl;
  trace_twice = refl;
  workload = refl;
  no_bits = refl;
  many_bits = refl;
  padded_bits = refl;
  workload_with_option = refl;
  workload_alone = refl;
  other_command = refl;
  option_first = refl;
}
