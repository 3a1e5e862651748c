use Rattle.std.proofs.Common.{map, take}
use Rattle.source_machine.specs.LowestNets.{IsFirst, IsUnknownIn}
use Rattle.source_machine.specs.declared.machines.Equation.{Equation}
use Rattle.source_machine.proofs.lowest_nets.first_unknown.Given as goal

-- the lowest of the nets so far
abbrev pub invariant-loop-equation : goal.invariant-loop-equation
invariant-loop-equation l =
    IsFirst (IsUnknownIn (take l.equation-index (map (λ (equation : Equation). equation.net.number) l.equations)) l.order.known) l.found
