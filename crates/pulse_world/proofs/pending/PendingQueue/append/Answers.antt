use Rattle.std.proofs.Common.{◌≡◌, ◌<◌, length, sym, subst, arith}
use Rattle.pulse_ids.specs.Lists.{occurrences}
use Rattle.pulse_world.specs.PendingQueues.{PlainQueue}
use Rattle.pulse_world.proofs.QueueMarks.{queue-count, queue-room, queue-append}
use Rattle.pulse_world.proofs.pending.PendingQueue.append.Goals as goal

pub overflow_cast-place : goal.overflow_cast-place
overflow_cast-place c =
    let some = queue-count c.self.inside.wires.items c.self.inside.places c.self.inside.pending _ c.self.invariant in
    let small = c.self.invariant.small in
    let is = c.len-place.ensures in
    let ok = c.self.inside.wires.ok in
    omega arith

pub push_reserved-requires : goal.push_reserved-requires
push_reserved-requires c =
    let below : c.args.wire.number < length c.self.inside.places = subst (λ (queue : PlainQueue). c.args.wire.number < queue.bound) (sym c.self.view_is) c.requires.below in
    let apart = subst (λ (queue : PlainQueue). occurrences c.args.wire.number queue.wires ≡ 0) (sym c.self.view_is) c.requires.apart in
    let room = queue-room c.self.inside.wires.items c.self.inside.places c.self.inside.pending _ c.args.wire c.self.invariant below apart in
    let ok = c.self.inside.wires.ok in
    omega arith

pub invariant_of-self : goal.invariant_of-self
invariant_of-self c =
    let below : c.args.wire.number < length c.self.inside.places = subst (λ (queue : PlainQueue). c.args.wire.number < queue.bound) (sym c.self.view_is) c.requires.below in
    let apart = subst (λ (queue : PlainQueue). occurrences c.args.wire.number queue.wires ≡ 0) (sym c.self.view_is) c.requires.apart in
    let count : c.len-place.result ≡ length c.self.inside.wires.items = let ok = c.self.inside.wires.ok in let is = c.len-place.ensures in omega arith in
    rw (c.set.ensures, c.set-2.ensures, count, c.push_reserved.ensures.items, c.push_reserved.ensures.capacity)
    (queue-append c.self.inside.wires.items c.self.inside.places c.self.inside.pending _ c.args.wire c.self.invariant below apart)
