use Rattle.std.proofs.Common.{◌≡◌, map, take}
use Rattle.source_machine.specs.declared.machines.Latch.{Latch}
use Rattle.source_machine.specs.Machines.{literal_of}
use Rattle.graph_build.specs.Literals.{node_literal}
use Rattle.graph_build.proofs.building.next_literals.Given as goal

-- the literals so far
abbrev pub invariant-loop-latch : goal.invariant-loop-latch
invariant-loop-latch l =
    l.given.items ≡ map (λ (latch : Latch). node_literal l.literals (literal_of latch.next)) (take l.latch-index l.latches)
