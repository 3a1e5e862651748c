use Rattle.std.proofs.Common.{◌≡◌, ◌≤◌, length, map, drop}
use Rattle.cell_netlist.specs.Netlists.{wire_bound, wire_of}
use Rattle.rail_checker.specs.Counts.{with_wires}
use Rattle.rail_checker.proofs.counting.count_rails.Given as goal

-- what is counted, and then what is left, is all
abbrev pub invariant-loop-number : goal.invariant-loop-number
invariant-loop-number l = (with_wires l.counts (map wire_of (drop l.number l.rails)) ≡ with_wires l.fn.counts (map wire_of l.rails))
    × (wire_bound (map wire_of l.rails) ≤ length l.counts)
