use Rattle.std.proofs.Common.{◌≡◌}
use Rattle.rail_mapper.specs.Counts.{with_reads}
use Rattle.rail_mapper.proofs.CountedReads.{fronts_below}
use Rattle.rail_mapper.proofs.counting.count_fronts.Given as goal

-- the reads of the latches before this one are counted
abbrev pub invariant-loop-latch : goal.invariant-loop-latch
invariant-loop-latch l = l.draft ≡ with_reads l.fn.draft (fronts_below l.circuit.built.now l.circuit.demand.now l.latch)
