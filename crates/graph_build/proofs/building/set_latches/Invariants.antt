use Rattle.std.proofs.Common.{◌≡◌, ◌⊎◌, map, take}
use Rattle.source_machine.specs.Machines.{machine_of}
use Rattle.pulse_ids.specs.Lists.{IsIn}
use Rattle.graph_build.specs.Literals.{HasLiterals}
use Rattle.graph_build.proofs.building.set_latches.Given as goal

-- the inputs, and the latches so far, have their literals
abbrev pub invariant-loop-number : goal.invariant-loop-number
invariant-loop-number l =
    HasLiterals (machine_of l.raw) l.graph l.literals (λ net. ((net ≡ 0) ⊎ IsIn net (machine_of l.raw).inputs) ⊎ IsIn net (take l.number (map (λ latch. latch.out) (machine_of l.raw).latches)))
