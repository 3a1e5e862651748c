use Rattle.std.proofs.Common.{◌≡◌, length, drop}
use Rattle.rail_checker.specs.Tables.{through, with_back}
use Rattle.rail_checker.proofs.links.put_backs.Given as goal

-- the steps so far, and then those that are left, are all
abbrev pub invariant-loop-number : goal.invariant-loop-number
invariant-loop-number l = (through with_back l.backs (drop l.number l.cells) ≡ through with_back l.fn.backs l.cells) × (length l.backs ≡ length l.fn.backs)
