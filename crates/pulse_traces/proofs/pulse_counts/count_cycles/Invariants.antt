use Rattle.std.proofs.Common.{◌≡◌, ◌≤◌, ◌*◌, ◌^◌, replicate}
use Rattle.schedule_replay.specs.Orders.{IsBetween}
use Rattle.pulse_traces.specs.Rooms.{HasRooms}
use Rattle.pulse_traces.proofs.OrderCycles.{CountedSo}
use Rattle.pulse_traces.proofs.pulse_counts.count_cycles.Given as goal

abbrev pub invariant-loop-number : goal.invariant-loop-number
invariant-loop-number g l = record {
  so : CountedSo l.fn.order l.fn.world (replicate l.fn.cycles l.fn.vector) l._number l.deliveries l.ones l.world;
  between : IsBetween l.world;
  net : l.world.net ≡ l.fn.world.net;
  room : HasRooms l.world.net l.room;
  few_deliveries : l.deliveries ≤ l._number * 2 ^ 23;
  few_ones : l.ones ≤ l._number * 2 ^ 32;
}
