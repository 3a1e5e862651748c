-- A counter is what its text says.
use Rattle.counter_sources.proofs.ExampleTexts.{one_bit_is_written}
use Rattle.counter_sources.proofs.ReadBack.{counters_are_read}
use Rattle.counter_sources.proofs.laws.counters_are_read.Goals as goal

pub returns-clause-read : goal.returns-clause-read
returns-clause-read c = counters_are_read

pub returns-clause-one_bit : goal.returns-clause-one_bit
returns-clause-one_bit c = one_bit_is_written
