use Rattle.std.proofs.Common.{◌≡◌, ◌≤◌, length, drop}
use Rattle.std.specs.List.{flat_map}
use Rattle.cell_netlist.specs.Netlists.{wire_bound, reads}
use Rattle.rail_checker.specs.Counts.{with_wires}
use Rattle.rail_checker.proofs.counting.count_reads.Given as goal

-- what is counted, and then what is left, is all
abbrev pub invariant-loop-number : goal.invariant-loop-number
invariant-loop-number l = (with_wires l.counts (flat_map reads (drop l.number l.cells)) ≡ with_wires l.fn.counts (flat_map reads l.cells))
    × (wire_bound (flat_map reads l.cells) ≤ length l.counts)
