use Rattle.std.proofs.Common.{◌≡◌, ◌++◌, drop}
use Rattle.rail_checker.specs.Rails.{keys_from}
use Rattle.rail_checker.proofs.repeats.rail_keys.Given as goal

-- the keys so far, and then those that are left, are all
abbrev pub invariant-loop-number : goal.invariant-loop-number
invariant-loop-number l = l.keys.items ++ keys_from l.number (drop l.number l.rails) ≡ keys_from 0 l.rails
