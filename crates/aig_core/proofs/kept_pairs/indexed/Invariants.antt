use Rattle.std.proofs.Common.{◌≡◌, take}
use Rattle.aig_core.proofs.kept_pairs.indexed.Given as goal

-- the pairs so far have their index
abbrev pub invariant-loop-pair : goal.invariant-loop-pair
invariant-loop-pair l = l.set.keys ≡ take l.pair-index l.list
