use Rattle.std.proofs.Common.{◌≡◌, ◌-◌, length}
use Rattle.cell_netlist.specs.Netlists.{number_of_wires}
use Rattle.pulse_world.specs.Worlds.{IsWorld}
use Rattle.schedule_replay.specs.Settling.{DeliversInTurn}
use Rattle.schedule_replay.proofs.settling.settled.Given as goal

abbrev pub invariant-loop-world : goal.invariant-loop-world
invariant-loop-world g l = record {
  world : IsWorld l.fn.world;
  delivers : DeliversInTurn (g.F.Choose.names l.chooser) l.fn.start l.fn.world l.log.wires l.world;
  room : l.log.room ≡ l.fn.log.room;
}

abbrev pub decreases-loop-world : goal.decreases-loop-world
decreases-loop-world g l = number_of_wires l.fn.world.net - length l.log.wires
