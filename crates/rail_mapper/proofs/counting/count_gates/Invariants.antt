use Rattle.std.proofs.Common.{◌≡◌, ◌*◌}
use Rattle.rail_mapper.specs.Counts.{with_reads}
use Rattle.rail_mapper.proofs.CountedReads.{reads_below}
use Rattle.rail_mapper.proofs.counting.count_gates.Given as goal

-- the reads of the nodes before this one are counted
abbrev pub invariant-loop-number : goal.invariant-loop-number
invariant-loop-number l = l.draft ≡ with_reads l.fn.draft (reads_below l.circuit.built.now l.circuit.demand.now (2 * l.number))
