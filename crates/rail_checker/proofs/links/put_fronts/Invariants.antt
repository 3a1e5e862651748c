use Rattle.std.proofs.Common.{◌≡◌, length, drop}
use Rattle.rail_checker.specs.Tables.{through, with_front}
use Rattle.rail_checker.proofs.links.put_fronts.Given as goal

-- the steps so far, and then those that are left, are all
abbrev pub invariant-loop-number : goal.invariant-loop-number
invariant-loop-number l = (through with_front l.fronts (drop l.number l.cells) ≡ through with_front l.fn.fronts l.cells) × (length l.fronts ≡ length l.fn.fronts)
