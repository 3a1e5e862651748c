-- A counter counts.
use Rattle.workload_circuits.proofs.Counted.{counters_count}
use Rattle.workload_circuits.proofs.laws.counters_count.Goals as goal

pub returns : goal.returns
returns c = counters_count
