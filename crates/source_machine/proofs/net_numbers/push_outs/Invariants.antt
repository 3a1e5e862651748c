use Rattle.std.proofs.Common.{◌≡◌, ◌++◌, map, take}
use Rattle.source_machine.specs.declared.machines.Latch.{Latch}
use Rattle.source_machine.proofs.net_numbers.push_outs.Given as goal

-- the nets before, and those of the items so far
abbrev pub invariant-loop-latch : goal.invariant-loop-latch
invariant-loop-latch l =
    l.nets.items ≡ l.fn.nets.items ++ map (λ (latch : Latch). latch.out.number) (take l.latch-index l.latches)
