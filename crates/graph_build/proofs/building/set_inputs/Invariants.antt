use Rattle.std.proofs.Common.{◌≡◌, ◌⊎◌, take}
use Rattle.source_machine.specs.Machines.{machine_of}
use Rattle.pulse_ids.specs.Lists.{IsIn}
use Rattle.graph_build.specs.Literals.{HasLiterals}
use Rattle.graph_build.proofs.building.set_inputs.Given as goal

-- the inputs so far have their literals
abbrev pub invariant-loop-number : goal.invariant-loop-number
invariant-loop-number l =
    HasLiterals (machine_of l.raw) l.graph l.literals (λ net. (net ≡ 0) ⊎ IsIn net (take l.number (machine_of l.raw).inputs))
