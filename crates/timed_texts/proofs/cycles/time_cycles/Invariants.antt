-- The loop of the vectors.
use Rattle.std.proofs.Common.{◌≡◌, ◌≤◌, length, take}
use Rattle.std.specs.Vec.{vec_capacity}
use Rattle.cell_netlist.specs.Netlists.{number_of_wires}
use Rattle.cell_netlist.specs.World.{start}
use Rattle.pulse_world.specs.Worlds.{state_of}
use Rattle.schedule_replay.specs.Orders.{IsBetween}
use Rattle.timed_texts.specs.TimedCycles.{TimesCycles}
use Rattle.timed_world.specs.Delays.{PlainDelays, AreGiven}
use Rattle.timed_texts.proofs.cycles.time_cycles.Given as goal

-- the cycles of the first vectors were made and timed
abbrev pub invariant-loop-number : goal.invariant-loop-number
invariant-loop-number g l = record {
  timed : (delays : PlainDelays) → AreGiven (g.F.Delay.gives l.fn.delays) delays
      → TimesCycles delays l.fn.net (start l.fn.net) (take l.number l.fn.vectors.vectors) l.cycles.items (state_of l.world);
  count : length l.cycles.items ≡ l.number;
  space : length l.fn.vectors.vectors ≤ vec_capacity l.cycles;
  world : l.world.net ≡ l.fn.net;
  between : IsBetween l.world;
  times : l.times.room ≡ number_of_wires l.fn.net;
  room : number_of_wires l.fn.net ≤ l.log.room;
}
