-- What the equations of a machine wait for.
use Rattle.std.specs.Prelude.{ℕ, ◌+◌, List, [], ◌∷◌, ◌++◌, map}
use Rattle.dependency_order.specs.Dependencies.{PlainDependencies}
use Rattle.source_machine.specs.Machines.{PlainMachine}
use Rattle.source_machine.specs.Grounding.{cube_nets}

-- net 0, the inputs and the latch outputs
abbrev pub start_nets : PlainMachine → List ℕ
start_nets machine = 0 ∷ (machine.inputs ++ map (λ latch. latch.out) machine.latches)

-- each equation needs the nets of its cubes and yields its net
abbrev pub dependencies_of : PlainMachine → PlainDependencies
dependencies_of machine = record {
  count = machine.nets + 1;
  starts = start_nets machine;
  needs = map cube_nets machine.equations;
  yields = map (λ equation. equation.net ∷ []) machine.equations;
}
