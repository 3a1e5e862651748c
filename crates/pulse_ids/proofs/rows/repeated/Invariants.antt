use Rattle.std.proofs.Common.{◌≡◌, replicate}
use Rattle.pulse_ids.proofs.rows.repeated.Given as goal

abbrev pub invariant-loop-made : goal.invariant-loop-made
invariant-loop-made g l = l.list.items ≡ replicate l._made l.item
