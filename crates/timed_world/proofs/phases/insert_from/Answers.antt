use Rattle.std.proofs.Common.{◌+◌, ◌∙◌, ap}
use Rattle.timed_world.specs.Delays.{lag}
use Rattle.timed_world.proofs.TurnLemmas.{inserted-more}
use Rattle.timed_world.proofs.phases.insert_from.Goals as goal

pub loop-place-preserved : goal.loop-place-preserved
loop-place-preserved c = record {
  inserted = inserted-more (λ wire. c.args.time + lag c.args.delays.now c.args.net.now wire) c.args.world.now.queue c.args.first c.loop-place.place c.args.times.now.turns
      c.loop-place.times.turns c.insert.new.self.turns c.pending_at-wire.result.number c.due_time.result c.loop-place.invariant.inserted c.pending_at-wire.ensures.wire
      c.due_time.ensures.due c.insert.ensures.more c.insert.ensures.longer;
  room = c.insert.ensures.room ∙ c.loop-place.invariant.room;
}
