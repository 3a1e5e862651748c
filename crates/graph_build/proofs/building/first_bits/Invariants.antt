use Rattle.std.proofs.Common.{◌≡◌, map, take}
use Rattle.source_machine.specs.declared.machines.Latch.{Latch}
use Rattle.graph_build.proofs.building.first_bits.Given as goal

-- the bits so far
abbrev pub invariant-loop-latch : goal.invariant-loop-latch
invariant-loop-latch l = l.bits.items ≡ map (λ (latch : Latch). latch.init) (take l.latch-index l.latches)
