use Rattle.std.proofs.Common.{◌≡◌}
use Rattle.rail_mapper.specs.Counts.{with_reads}
use Rattle.rail_mapper.proofs.CountedReads.{outputs_below}
use Rattle.rail_mapper.proofs.counting.count_outputs.Given as goal

-- the reads of the ports before this one are counted
abbrev pub invariant-loop-port : goal.invariant-loop-port
invariant-loop-port l = l.draft ≡ with_reads l.fn.draft (outputs_below l.circuit.built.now.outputs l.circuit.ask l.port)
