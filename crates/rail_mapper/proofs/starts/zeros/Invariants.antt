use Rattle.std.proofs.Common.{◌≡◌, replicate}
use Rattle.rail_mapper.proofs.starts.zeros.Given as goal

abbrev pub invariant-loop-made : goal.invariant-loop-made
invariant-loop-made l = l.list.items ≡ replicate l._made 0
