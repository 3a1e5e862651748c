-- How many conjunctions the equations of an order need at the most.
use Rattle.std.specs.Prelude.{ℕ, ◌+◌, ◌≤◌, List, [], ◌∷◌, length, map, take, drop, slice_index}
use Rattle.pulse_ids.specs.Ids.{NodeLit}
use Rattle.aig_core.specs.Graphs.{PlainGraph}
use Rattle.source_machine.specs.Machines.{PlainMachine}
use Rattle.source_machine.specs.Fitting.{size_of_cubes, size_of}
use Rattle.graph_build.specs.Literals.{HasLiterals}
use Rattle.graph_build.specs.Orders.{IsBuilt}

-- the number of cubes and cube literals of each equation
abbrev pub equation_sizes : PlainMachine → List ℕ
equation_sizes machine = map (λ equation. size_of_cubes equation.cubes) machine.equations

-- the sum of the sizes with these numbers
abbrev pub sum_at : List ℕ → List ℕ → ℕ
sum_at sizes [] = 0
sum_at sizes (number ∷ numbers) = slice_index sizes number + sum_at sizes numbers

-- the equations before this place of the order have their literals, and the rest has room
pub record AreEquationsSoFar (machine : PlainMachine) (order : List ℕ) (place : ℕ) (graph : PlainGraph) (literals : List NodeLit) : Type 0 where
  pub has : HasLiterals machine graph literals (IsBuilt machine (take place order))
  pub small : length graph.pairs + sum_at (equation_sizes machine) (drop place order) ≤ size_of machine
