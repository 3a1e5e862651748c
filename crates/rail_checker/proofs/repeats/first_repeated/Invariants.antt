use Rattle.std.proofs.Common.{◌≤◌, max, length}
use Rattle.rail_checker.specs.Rails.{IsRepeated}
use Rattle.rail_checker.specs.Verdicts.{IsFirst}
use Rattle.rail_checker.proofs.repeats.first_repeated.Given as goal

-- the lowest number so far
abbrev pub invariant-loop-place : goal.invariant-loop-place
invariant-loop-place l = IsFirst (IsRepeated l.keys l.place) l.found × (l.place ≤ max 1 (length l.keys))
