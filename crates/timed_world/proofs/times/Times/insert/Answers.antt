use Rattle.std.proofs.Common.{◌≡◌, ◌+◌, ◌==◌, ℕ, map, heap_items, subst, ap, arith}
use Rattle.std.specs.declared.cmp.Reverse.{Reverse}
use Rattle.pulse_ids.specs.Lists.{occurrences}
use Rattle.pulse_ids.proofs.CallerLemmasOnCounts.{one_if}
use Rattle.timed_world.specs.Times.{PlainTimes, turn}
use Rattle.timed_world.proofs.TurnLemmas.{mapped-permutation}
use Rattle.timed_world.proofs.times.Times.insert.Goals as goal

pub returns-clause-more : goal.returns-clause-more
returns-clause-more c other =
    let moved = mapped-permutation (λ (t : Reverse ℕ). t.0) _ _ c.in-Ok.ensures.permutation other in
    let test : one_if (other == c.turn_of.result) ≡ one_if (other == turn c.args.time c.args.wire.number) = ap (λ n. one_if (other == n)) c.turn_of.ensures in
    subst (λ (v : PlainTimes). occurrences other (map (λ (t : Reverse ℕ). t.0) (heap_items c.push.new.self)) ≡ occurrences other v.turns + one_if (other == turn c.args.time c.args.wire.number))
    c.self.view_is (omega (arith, moved, test))
