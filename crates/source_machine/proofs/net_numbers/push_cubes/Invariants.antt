use Rattle.std.proofs.Common.{◌≡◌, ◌++◌, List, map, take}
use Rattle.std.specs.List.{flat_map}
use Rattle.pulse_ids.specs.Ids.{Lit}
use Rattle.source_machine.proofs.net_numbers.push_cubes.Given as goal

-- the nets before, and those of the cubes so far
abbrev pub invariant-loop-cube : goal.invariant-loop-cube
invariant-loop-cube l =
    l.nets.items ≡ l.fn.nets.items ++ flat_map (λ (cube : List Lit). map (λ (literal : Lit). literal.id.number) cube) (take l.cube-index l.cubes)
