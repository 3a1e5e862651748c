use Rattle.std.proofs.Common.{ℕ, map, heap_items, subst}
use Rattle.std.specs.declared.cmp.Reverse.{Reverse}
use Rattle.timed_world.specs.Times.{PlainTimes, IsFirstTaken}
use Rattle.timed_world.proofs.HeapTurns.{first_taken}
use Rattle.timed_world.proofs.times.Times.take.Goals as goal

pub returns-clause-taken : goal.returns-clause-taken
returns-clause-taken c =
    subst (λ (v : PlainTimes). IsFirstTaken v.turns c.time_and_wire.result.0 c.time_and_wire.result.1.number (map (λ (t : Reverse ℕ). t.0) (heap_items c.pop.new.self)))
    c.self.view_is
    (first_taken c.in-Some.turn (heap_items c.self.inside.turns) (heap_items c.pop.new.self) c.time_and_wire.result.0 c.time_and_wire.result.1.number
    c.time_and_wire.ensures.turn c.time_and_wire.ensures.wire c.in-Some.ensures.permutation (c.in-Some.ensures.heap_order c.self.invariant.0).1)
