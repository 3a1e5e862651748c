-- What the ports in memory are to their callers, and what one call makes of them.
use Rattle.std.specs.Prelude.{ℕ, ◌-◌, ◌^◌, List, [], ◌++◌, Bool, true, false, ◌&&◌, ◌==◌, nat_lt, min, length, drop}
use Rattle.std.specs.List.{list_any}
use Rattle.byte_ports.specs.Causes.{one_more}

-- whether the call of this number fails: the number stands in the list, and is below 2^64 - 1
abbrev pub call_fails : List ℕ → ℕ → Bool
call_fails failing call = nat_lt call (2 ^ 64 - 1) && list_any (λ number. number == call) failing

-- a source in memory: the bytes left, the most for one call, the numbers of the calls that fail, the number of the next call, and the faults
pub record SourceScript : Type 0 where
  pub left : List ℕ
  pub step : ℕ
  pub failing : List ℕ
  pub calls : ℕ
  pub faults : ℕ

-- a source that was never called
abbrev pub new_source : List ℕ → ℕ → List ℕ → SourceScript
new_source bytes step failing = record { left = bytes; step = step; failing = failing; calls = 0; faults = 0 }

-- whether the next read fails
abbrev pub read_fails : SourceScript → Bool
read_fails source = call_fails source.failing source.calls

-- how many bytes a read into so much room gives, where it doesn't fail
abbrev pub count_given : SourceScript → ℕ → ℕ
count_given source room = min source.step (min (length source.left) room)

-- the source after a read that gave so many bytes
abbrev pub source_after_read : SourceScript → ℕ → SourceScript
source_after_read source count = record source { left = drop count source.left; calls = one_more source.calls }

-- the source after a read that failed
abbrev pub source_after_failure : SourceScript → SourceScript
source_after_failure source = record source { calls = one_more source.calls; faults = one_more source.faults }

-- a sink in memory: the bytes taken, the most for one write, the numbers of the writes that fail, the number of the next write,
-- the numbers of the flushes that fail, the number of the next flush, the faults, and whether it is flushed
pub record SinkScript : Type 0 where
  pub taken : List ℕ
  pub step : ℕ
  pub failing : List ℕ
  pub calls : ℕ
  pub failing_flushes : List ℕ
  pub flushes : ℕ
  pub faults : ℕ
  pub flushed : Bool

-- a sink that was never called
abbrev pub new_sink : ℕ → List ℕ → List ℕ → SinkScript
new_sink step failing failing_flushes = record
    { taken = []; step = step; failing = failing; calls = 0; failing_flushes = failing_flushes; flushes = 0; faults = 0; flushed = false }

-- whether the next write fails, however much memory there is
abbrev pub write_fails : SinkScript → Bool
write_fails sink = call_fails sink.failing sink.calls

-- the sink after a write that took these bytes
abbrev pub sink_after_write : SinkScript → List ℕ → SinkScript
sink_after_write sink bytes = record sink { taken = sink.taken ++ bytes; calls = one_more sink.calls; flushed = false }

-- the sink after a write that failed
abbrev pub sink_after_failure : SinkScript → SinkScript
sink_after_failure sink = record sink { calls = one_more sink.calls; faults = one_more sink.faults; flushed = false }

-- whether the next flush fails
abbrev pub flush_fails : SinkScript → Bool
flush_fails sink = call_fails sink.failing_flushes sink.flushes

-- the sink after a flush
abbrev pub sink_after_flush : SinkScript → SinkScript
sink_after_flush sink = record sink { flushes = one_more sink.flushes; flushed = true }

-- the sink after a flush that failed
abbrev pub sink_after_failed_flush : SinkScript → SinkScript
sink_after_failed_flush sink = record sink { flushes = one_more sink.flushes; faults = one_more sink.faults; flushed = false }

-- a sink that counts: the number of bytes, up to 2^64 - 1, and whether it is flushed
pub record CountScript : Type 0 where
  pub total : ℕ
  pub flushed : Bool
