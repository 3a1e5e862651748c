-- Which machines have a value for each net, and how others are refused.
use Rattle.std.specs.Prelude.{◌≡◌, ◌≢◌, ℕ, ◌<◌, ◌≤◌, List, ◌++◌, map}
use Rattle.std.specs.List.{flat_map}
use Rattle.pulse_ids.specs.Lists.{IsIn, occurrences}
use Rattle.source_machine.specs.Machines.{PlainEquation, PlainMachine}
use Rattle.source_machine.specs.Runs.{driven_nets}

-- the nets of the literals in an equation's cubes
abbrev pub cube_nets : PlainEquation → List ℕ
cube_nets equation = flat_map (map (λ literal. literal.net)) equation.cubes

-- the nets of all cube literals, next literals and output literals
abbrev pub used_nets : PlainMachine → List ℕ
used_nets machine =
    flat_map cube_nets machine.equations ++ (map (λ latch. latch.next.net) machine.latches ++ map (λ literal. literal.net) machine.outputs)

-- the least set that holds net 0, each input, each latch output, and the net of each equation whose cube nets are all in it
pub data Grounded (machine : PlainMachine) : ℕ → Type 0 where
  of_constant : Grounded machine 0
  of_input : (net : ℕ) → IsIn net machine.inputs → Grounded machine net
  of_latch : (net : ℕ) → IsIn net (map (λ latch. latch.out) machine.latches) → Grounded machine net
  of_equation : (net : ℕ) → (equation : PlainEquation) → IsIn equation machine.equations → equation.net ≡ net
      → ((used : ℕ) → IsIn used (cube_nets equation) → Grounded machine used) → Grounded machine net

-- the net is driven more than once
abbrev pub IsDrivenTwice : PlainMachine → ℕ → Type 0
IsDrivenTwice machine net = 2 ≤ occurrences net (driven_nets machine)

-- the net isn't net 0, is used, and is driven by nothing
abbrev pub IsUndriven : PlainMachine → ℕ → Type 0
IsUndriven machine net =
    (net ≢ 0) × IsIn net (used_nets machine) × (IsIn net (driven_nets machine) → ⊥)

-- the net has an equation and isn't grounded
abbrev pub IsUngrounded : PlainMachine → ℕ → Type 0
IsUngrounded machine net =
    IsIn net (map (λ equation. equation.net) machine.equations) × (Grounded machine net → ⊥)

-- no net is so
abbrev pub IsNever : (ℕ → Type 0) → Type 0
IsNever P = (net : ℕ) → P net → ⊥

-- the net is so, and no lower one is
abbrev pub IsLowest : (ℕ → Type 0) → ℕ → Type 0
IsLowest P net = P net × ((lower : ℕ) → lower < net → P lower → ⊥)

-- why a machine is refused, with a net
pub data Refusal : Type 0 where
  driven_twice : ℕ → Refusal
  undriven : ℕ → Refusal
  ungrounded : ℕ → Refusal

-- the first refusal that there is, in this order, with its lowest net
abbrev pub IsFirstRefusal : PlainMachine → Refusal → Type 0
IsFirstRefusal machine (driven_twice net) = IsLowest (IsDrivenTwice machine) net
IsFirstRefusal machine (undriven net) = IsNever (IsDrivenTwice machine) × IsLowest (IsUndriven machine) net
IsFirstRefusal machine (ungrounded net) =
    IsNever (IsDrivenTwice machine) × IsNever (IsUndriven machine) × IsLowest (IsUngrounded machine) net

-- there is no refusal: no net is driven twice, each used net but net 0 is driven, and each equation's net is grounded
pub record IsWellFounded (machine : PlainMachine) : Type 0 where
  pub driven_once : IsNever (IsDrivenTwice machine)
  pub all_driven : (net : ℕ) → net ≢ 0 → IsIn net (used_nets machine) → IsIn net (driven_nets machine)
  pub all_grounded : (net : ℕ) → IsIn net (map (λ equation. equation.net) machine.equations) → Grounded machine net
