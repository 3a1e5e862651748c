use Rattle.std.proofs.Common.{◌≡◌, ◌<◌, ℕ, length}
use Rattle.rail_checker.specs.Tables.{root_at}
use Rattle.rail_checker.proofs.roots.own_wires.Given as goal

-- each wire so far has itself
abbrev pub invariant-loop-wire : goal.invariant-loop-wire
invariant-loop-wire l = (length l.roots ≡ l.count) × ((w : ℕ) → w < l.wire → root_at l.roots w ≡ w)
