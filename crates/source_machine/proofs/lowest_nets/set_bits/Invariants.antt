use Rattle.std.proofs.Common.{take}
use Rattle.source_machine.specs.LowestNets.{MarksAll}
use Rattle.source_machine.proofs.lowest_nets.set_bits.Given as goal

-- the nets so far are marked
abbrev pub invariant-loop-net : goal.invariant-loop-net
invariant-loop-net l = MarksAll l.fn.bits.items (take l.net-index l.nets) l.value l.bits.items
