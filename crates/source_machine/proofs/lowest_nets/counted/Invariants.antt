use Rattle.std.proofs.Common.{take}
use Rattle.source_machine.specs.LowestNets.{Counts}
use Rattle.source_machine.proofs.lowest_nets.counted.Given as goal

-- the nets so far are counted
abbrev pub invariant-loop-net : goal.invariant-loop-net
invariant-loop-net l = Counts l.count (take l.net-index l.nets) l.counts.items
