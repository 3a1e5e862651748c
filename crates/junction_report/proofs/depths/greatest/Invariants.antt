use Rattle.std.proofs.Common.{◌≡◌, max, drop}
use Rattle.junction_report.specs.Depths.{most}
use Rattle.junction_report.proofs.depths.greatest.Given as goal

-- the greatest so far, or of those that are left, is the greatest of all
abbrev pub invariant-loop-depth : goal.invariant-loop-depth
invariant-loop-depth l = max l.greatest (most (drop l.depth-index l.depths)) ≡ most l.depths
