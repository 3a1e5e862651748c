use Rattle.std.proofs.Common.{rules, map}
use Rattle.schedule_replay.specs.Logs.{wire_number}
use Rattle.schedule_replay.proofs.Scripts.{all-more, number-at}
use Rattle.schedule_replay.proofs.replaying.replay.Goals as goal

pub loop-at-preserved : goal.loop-at-preserved
loop-at-preserved c = record {
  world = c.loop-at.invariant.world;
  delivers = all-more (map wire_number c.args.script.now) c.loop-at.at _ c.args.world.now c.loop-at.world c.deliver.new.self
      (number-at c.args.script.now c.loop-at.at _ (search rules)) c.loop-at.invariant.delivers (c.deliver.ensures.delivered (search rules));
}
