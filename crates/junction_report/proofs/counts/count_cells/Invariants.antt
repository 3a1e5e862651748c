use Rattle.std.proofs.Common.{◌≡◌, take}
use Rattle.junction_report.specs.Counts.{counts_of}
use Rattle.junction_report.proofs.counts.count_cells.Given as goal

-- the cells so far are counted
abbrev pub invariant-loop-cell : goal.invariant-loop-cell
invariant-loop-cell l = l.counts ≡ counts_of (take l.cell-index l.cells)
