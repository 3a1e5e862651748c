use Rattle.std.proofs.Common.{◌≡◌}
use Rattle.engine_rows.proofs.worlds.calls_told.Given as goal

abbrev pub invariant-loop-call : goal.invariant-loop-call
invariant-loop-call l =
    (l.net ≡ l.world.net) ×
    (goal.iterator-loop-call).can_next l.call-iterator ×
    (goal.iterator-loop-call).is_finite l.call-iterator
