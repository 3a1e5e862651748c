-- The first `count` bytes were taken, and no write has failed.
use Rattle.std.proofs.Common.{length, take, ◌≡◌, ◌-◌, ◌≤◌}
use Rattle.std.specs.Io.KnownBytes.{Appends}
use Rattle.buffered_sink.proofs.buffered.send_prefix.Given as goal

abbrev pub invariant-loop-count : goal.invariant-loop-count
invariant-loop-count g l = record {
  within : l.count ≤ length l.bytes;
  grown : Appends (g.K.Sink.taken l.fn.sink) (g.K.Sink.taken l.sink) (take l.count l.bytes);
  calm : g.K.Sink.faults l.sink ≡ g.K.Sink.faults l.fn.sink;
}

abbrev pub decreases-loop-count : goal.decreases-loop-count
decreases-loop-count g l = length l.bytes - l.count
