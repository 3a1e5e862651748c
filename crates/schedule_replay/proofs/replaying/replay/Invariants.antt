use Rattle.std.proofs.Common.{map, take}
use Rattle.pulse_world.specs.Worlds.{IsWorld}
use Rattle.schedule_replay.specs.Logs.{wire_number}
use Rattle.schedule_replay.specs.Settling.{DeliversAll}
use Rattle.schedule_replay.proofs.replaying.replay.Given as goal

abbrev pub invariant-loop-at : goal.invariant-loop-at
invariant-loop-at l = record {
  world : IsWorld l.fn.world;
  delivers : DeliversAll l.fn.world (take l.at (map wire_number l.script)) l.world;
}
