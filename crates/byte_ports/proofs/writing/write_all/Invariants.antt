-- The first `at` bytes were taken, and the loop has made a call exactly where `at` isn't 0.
use Rattle.std.proofs.Common.{length, take, ◌-◌, ◌≡◌, ◌<◌, ◌≤◌, IsFalse}
use Rattle.std.specs.Io.KnownBytes.{Appends}
use Rattle.byte_ports.proofs.writing.write_all.Given as goal

abbrev pub invariant-loop-at : goal.invariant-loop-at
invariant-loop-at g l =
    record {
      within : l.at ≤ length l.bytes;
      calm : g.K.Sink.faults l.sink ≡ g.K.Sink.faults l.fn.sink;
      grown : Appends (g.K.Sink.taken l.fn.sink) (g.K.Sink.taken l.sink) (take l.at l.bytes);
      opened : 0 < l.at → IsFalse (g.K.Sink.flushed l.sink);
      untouched : l.at ≡ 0 → l.sink ≡ l.fn.sink;
    }

abbrev pub decreases-loop-at : goal.decreases-loop-at
decreases-loop-at g l = length l.bytes - l.at
