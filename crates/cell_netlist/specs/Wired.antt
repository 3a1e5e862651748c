-- The four rules of wiring: each wire has one driver and one reader.
use Rattle.std.specs.Prelude.{◌≤◌, ◌<◌, ℕ}
use Rattle.pulse_ids.specs.Lists.{occurrences}
use Rattle.cell_netlist.specs.Netlists.{PlainNetlist, driven, read, number_of_wires}

pub record IsWired (net : PlainNetlist) : Type 0 where
  -- every wire has a driver, and no wire has two
  pub all_driven : (wire : ℕ) → wire < number_of_wires net → 1 ≤ occurrences wire (driven net)
  pub none_driven_twice : (wire : ℕ) → wire < number_of_wires net → occurrences wire (driven net) ≤ 1
  -- every wire has a reader, and no wire has two
  pub all_read : (wire : ℕ) → wire < number_of_wires net → 1 ≤ occurrences wire (read net)
  pub none_read_twice : (wire : ℕ) → wire < number_of_wires net → occurrences wire (read net) ≤ 1
