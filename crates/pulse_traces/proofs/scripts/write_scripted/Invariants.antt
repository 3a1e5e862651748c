use Rattle.std.proofs.Common.{◌≡◌}
use Rattle.schedule_replay.specs.Orders.{IsBetween}
use Rattle.pulse_traces.specs.Rooms.{HasRooms}
use Rattle.pulse_traces.specs.Scripts.{scripted}
use Rattle.pulse_traces.proofs.ScriptCycles.{ScriptsSo}
use Rattle.pulse_traces.proofs.scripts.write_scripted.Given as goal

abbrev pub invariant-loop-number : goal.invariant-loop-number
invariant-loop-number g l = record {
  so : ScriptsSo l.fn.trace l.fn.world (scripted l.fn.vectors) (g.K.Sink.taken l.fn.out) l.number l.world (g.K.Sink.taken l.out);
  calm : g.K.Sink.faults l.out ≡ g.K.Sink.faults l.fn.out;
  between : IsBetween l.world;
  net : l.world.net ≡ l.fn.world.net;
  room : HasRooms l.world.net l.room;
}
