use Rattle.std.proofs.Common.{◌≡◌, Some, slice_get, subst, sym}
use Rattle.pulse_ids.specs.Lists.{IsIn}
use Rattle.pulse_world.specs.PendingQueues.{PlainQueue}
use Rattle.pulse_world.proofs.QueueMarks.{place-in, inside-of, none-of}
use Rattle.pulse_world.proofs.pending.PendingQueue.place_of.Goals as goal

pub get-requires : goal.get-requires
get-requires c =
    let inside = c.self.inside in
    inside-of inside.wires.items inside.places inside.pending _ c.args.wire.number c.self.invariant
    (subst (λ (queue : PlainQueue). IsIn c.args.wire.number queue.wires) (sym c.self.view_is) (c.has.ensures.0 c.if-has.true))

pub returns-then-has-clause-found : goal.returns-then-has-clause-found
returns-then-has-clause-found c =
    let inside = c.self.inside in
    subst (λ (queue : PlainQueue). slice_get queue.wires c.get.result.now ≡ Some c.args.wire.number) c.self.view_is
    (place-in inside.wires.items inside.places inside.pending _ c.args.wire.number c.get.result.now c.self.invariant
    (subst (λ (queue : PlainQueue). IsIn c.args.wire.number queue.wires) (sym c.self.view_is) (c.has.ensures.0 c.if-has.true)) c.get.ensures)

pub returns-else-has-clause-none : goal.returns-else-has-clause-none
returns-else-has-clause-none c _ =
    none-of c.args.self.now.wires c.args.wire.number (λ i. let yes = c.has.ensures.1 i in let no = c.if-has.false in absurd cc)
