use Rattle.std.proofs.Common.{◌≡◌, ◌≤◌, ◌*◌, ◌^◌}
use Rattle.schedule_replay.specs.Orders.{IsBetween}
use Rattle.pulse_traces.specs.Rooms.{HasRooms}
use Rattle.pulse_traces.proofs.OrderCycles.{WrittenSo}
use Rattle.pulse_traces.proofs.cycles.write_cycles.Given as goal

abbrev pub invariant-loop-number : goal.invariant-loop-number
invariant-loop-number g l = record {
  so : WrittenSo l.fn.order l.fn.trace l.fn.world l.fn.vectors.vectors (g.K.Sink.taken l.fn.out) l.number l.step l.world (g.K.Sink.taken l.out);
  calm : g.K.Sink.faults l.out ≡ g.K.Sink.faults l.fn.out;
  between : IsBetween l.world;
  net : l.world.net ≡ l.fn.world.net;
  room : HasRooms l.world.net l.room;
  small : l.step ≤ l.number * 2 ^ 23;
}
