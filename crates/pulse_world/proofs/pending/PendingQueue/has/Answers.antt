use Rattle.std.proofs.Common.{sym, subst, arith}
use Rattle.std.proofs.lemmas.Bool.Decides.{nat_tests}
use Rattle.pulse_ids.specs.Lists.{IsIn}
use Rattle.pulse_world.specs.PendingQueues.{PlainQueue}
use Rattle.pulse_world.proofs.QueueMarks.{inside-of}
use Rattle.pulse_world.proofs.pending.PendingQueue.has.Goals as goal

pub returns-else-number-len : goal.returns-else-number-len
returns-else-number-len c =
    let past = c.if-number-len.false in (
      λ e. absurd (grind (arith, nat_tests)),
      λ i.
          let inside = c.self.inside in
          let low = inside-of inside.wires.items inside.places inside.pending _ c.args.wire.number c.self.invariant
          (subst (λ (queue : PlainQueue). IsIn c.args.wire.number queue.wires) (sym c.self.view_is) i) in
          let one = c.self.invariant.one_mark in
          let number = c.number.ensures in
          let all = c.len.ensures in
          absurd (omega arith),
    )
