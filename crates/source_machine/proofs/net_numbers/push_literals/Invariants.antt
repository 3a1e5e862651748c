use Rattle.std.proofs.Common.{◌≡◌, ◌++◌, map, take}
use Rattle.pulse_ids.specs.Ids.{Lit}
use Rattle.source_machine.proofs.net_numbers.push_literals.Given as goal

-- the nets before, and those of the items so far
abbrev pub invariant-loop-literal : goal.invariant-loop-literal
invariant-loop-literal l =
    l.nets.items ≡ l.fn.nets.items ++ map (λ (literal : Lit). literal.id.number) (take l.literal-index l.literals)
