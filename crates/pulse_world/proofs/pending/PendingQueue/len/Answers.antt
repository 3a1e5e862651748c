use Rattle.std.proofs.Common.{subst, length, ◌≤◌, arith}
use Rattle.std.proofs.lemmas.List.{length-map}
use Rattle.pulse_world.specs.PendingQueues.{PlainQueue, number_in}
use Rattle.pulse_world.proofs.QueueMarks.{queue-count}
use Rattle.pulse_world.proofs.pending.PendingQueue.len.Goals as goal

pub overflow_cast-result : goal.overflow_cast-result
overflow_cast-result c =
    let some = queue-count c.self.inside.wires.items c.self.inside.places c.self.inside.pending _ c.self.invariant in
    let small = c.self.invariant.small in
    let is = c.len.ensures in
    let ok = c.self.inside.wires.ok in
    omega arith

pub returns-clause-most : goal.returns-clause-most
returns-clause-most c =
    let some = queue-count c.self.inside.wires.items c.self.inside.places c.self.inside.pending _ c.self.invariant in
    let count = length-map c.self.inside.wires.items number_in in
    subst (λ (queue : PlainQueue). length queue.wires ≤ queue.bound) c.self.view_is (omega arith)
