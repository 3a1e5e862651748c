-- Small machines with their graphs, and facts on them that show what the definitions mean.
use Rattle.std.specs.Prelude.{ℕ, List, [], ◌∷◌, false, true}
use Rattle.aig_core.specs.Examples.{half_adder}
use Rattle.aig_core.specs.Folds.{positive, complement}
use Rattle.source_machine.specs.Machines.{PlainLiteral, PlainEquation, PlainMachine}
use Rattle.source_machine.specs.Examples.{plain, inverse, nameless, toggle}
use Rattle.graph_build.specs.Built.{PlainBuilt, IsGraphOf}
use Rattle.graph_build.specs.Orders.{IsBuildOrder}

-- the net is the conjunction of the cube
abbrev pub product : ℕ → List PlainLiteral → PlainEquation
product net cube = record { net = net; on = true; cubes = cube ∷ [] }

-- net 6 is the conjunction of the inputs, net 7 that of their complements, and net 3 that of the complements of both, which is the sum
abbrev pub adder : PlainMachine
adder =
    nameless 7 (1 ∷ 2 ∷ []) [] (product 3 (inverse 6 ∷ inverse 7 ∷ []) ∷ product 6 (plain 1 ∷ plain 2 ∷ []) ∷ product 7 (inverse 1 ∷ inverse 2 ∷ []) ∷ []) (plain 3 ∷ plain 6 ∷ [])

-- the outputs are the sum, which is node 5, and the carry, which is node 3
abbrev pub adder_built : PlainBuilt
adder_built =
    record { graph = half_adder; outputs = positive 5 ∷ positive 3 ∷ []; nexts = []; inits = [] }

-- the one latch holds its complement next, and is the output
abbrev pub toggle_built : PlainBuilt
toggle_built =
    record { graph = record { inputs = 0; latches = 1; pairs = [] }; outputs = positive 1 ∷ []; nexts = complement (positive 1) ∷ []; inits = false ∷ [] }

-- these are the graphs of the two machines; with the outputs exchanged, or with the latch itself or the first bit 1 they aren't
pub record GraphsAreJudged : Type 0 where
  pub adder_is : IsGraphOf adder adder_built
  pub exchanged : IsGraphOf adder (record adder_built { outputs = positive 3 ∷ positive 5 ∷ [] }) → ⊥
  pub toggle_is : IsGraphOf toggle toggle_built
  pub held : IsGraphOf toggle (record toggle_built { nexts = positive 1 ∷ [] }) → ⊥
  pub begun : IsGraphOf toggle (record toggle_built { inits = true ∷ [] }) → ⊥

-- nets 6 and 7 can be built at once, and the lower one comes first; net 3 comes after both
pub record OrdersAreJudged : Type 0 where
  pub lowest_first : IsBuildOrder adder (1 ∷ 2 ∷ 0 ∷ [])
  pub higher_first : IsBuildOrder adder (2 ∷ 1 ∷ 0 ∷ []) → ⊥
  pub sum_first : IsBuildOrder adder (0 ∷ 1 ∷ 2 ∷ []) → ⊥
