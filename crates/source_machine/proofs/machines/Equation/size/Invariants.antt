use Rattle.std.proofs.Common.{◌≡◌, ◌≤◌, ◌+◌, ◌-◌, ◌^◌, map, min, drop}
use Rattle.source_machine.specs.Machines.{literal_of}
use Rattle.source_machine.specs.Fitting.{size_of_cubes}
use Rattle.source_machine.proofs.machines.Equation.size.Given as goal

-- the size so far and that of the cubes left
abbrev pub invariant-loop-cube : goal.invariant-loop-cube
invariant-loop-cube l =
    (l.size ≤ 2 ^ 64 - 1) × (min (l.size + size_of_cubes (map (map literal_of) (drop l.cube-index l.self.rows.items))) (2 ^ 64 - 1) ≡ min
    (size_of_cubes (map (map literal_of) l.self.rows.items)) (2 ^ 64 - 1))
