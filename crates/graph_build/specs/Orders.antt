-- The order in which the equations of a machine are built.
use Rattle.std.specs.Prelude.{ℕ, ◌≤◌, ◌<◌, ◌⊎◌, List, [], map, length, take, get_or, slice_index}
use Rattle.pulse_ids.specs.Lists.{IsIn, occurrences}
use Rattle.source_machine.specs.Machines.{PlainMachine}
use Rattle.source_machine.specs.Grounding.{cube_nets}
use Rattle.source_machine.specs.Dependencies.{start_nets}

-- the net of each equation
abbrev pub equation_nets : PlainMachine → List ℕ
equation_nets machine = map (λ equation. equation.net) machine.equations

-- the net is net 0, an input, a latch output, or the net of an equation of the order
abbrev pub IsBuilt : PlainMachine → List ℕ → ℕ → Type 0
IsBuilt machine order net = IsIn net (start_nets machine) ⊎ IsIn net (map (slice_index (equation_nets machine)) order)

-- so is each net of the equation's cubes
abbrev pub IsReady : PlainMachine → List ℕ → ℕ → Type 0
IsReady machine order equation =
    (used : ℕ) → IsIn used (get_or (map cube_nets machine.equations) equation []) → IsBuilt machine order used

-- each equation once, of those that are ready after the ones before it the one with the lowest net
pub record IsBuildOrder (machine : PlainMachine) (order : List ℕ) : Type 0 where
  pub in_range : (equation : ℕ) → IsIn equation order → equation < length machine.equations
  pub complete : (equation : ℕ) → equation < length machine.equations → IsIn equation order
  pub once : (equation : ℕ) → occurrences equation order ≤ 1
  pub ready : (place : ℕ) → place < length order → IsReady machine (take place order) (slice_index order place)
  pub lowest : (place other : ℕ) → place < length order → other < length machine.equations
      → (IsIn other (take place order) → ⊥) → IsReady machine (take place order) other
      → slice_index (equation_nets machine) (slice_index order place) ≤ slice_index (equation_nets machine) other
