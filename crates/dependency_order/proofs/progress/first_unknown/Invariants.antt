use Rattle.std.proofs.Common.{◌≡◌, ◌≤◌, ◌<◌, ◌-◌, ℕ, length, get_or, true, false}
use Rattle.std.specs.Prelude.{slice_index}
use Rattle.dependency_order.proofs.progress.first_unknown.Given as goal

abbrev pub decreases-loop-at : goal.decreases-loop-at
decreases-loop-at l = length l.needs - l.at

-- the numbers so far are known
abbrev pub invariant-loop-at : goal.invariant-loop-at
invariant-loop-at l = record {
  low : l.place ≤ l.at;
  high : l.at ≤ length l.needs;
  passed : (p : ℕ) → l.place ≤ p → p < l.at → get_or l.known (slice_index l.needs p) false ≡ true;
}
