-- How the bits of all nets are found.
use Rattle.std.specs.Prelude.{◌≡◌, ℕ, ◌+◌, List, Bool, false, map, length}
use Rattle.pulse_ids.specs.Lists.{IsIn, bit_at}
use Rattle.dependency_order.specs.Orders.{IsKnown}
use Rattle.source_machine.specs.Machines.{PlainMachine}
use Rattle.source_machine.specs.Runs.{driven_nets, Agrees}
use Rattle.source_machine.specs.Dependencies.{dependencies_of}

-- each of these nets has its bit of the list, if one bit for each net is possible, and all other nets are as before
pub record IsGiven (before : List Bool) (nets : List ℕ) (bits after : List Bool) : Type 0 where
  pub width : length after ≡ length before
  pub given : (value : ℕ → Bool) → map value nets ≡ bits → (net : ℕ) → IsIn net nets → bit_at after net ≡ value net
  pub kept : (net : ℕ) → (IsIn net nets → ⊥) → bit_at after net ≡ bit_at before net

-- the nets that are known in the order have the bits of every agreeing valuation, and what nothing drives has 0
pub record IsEvaluated (machine : PlainMachine) (state vector : List Bool) (order : List ℕ) (bits : List Bool) : Type 0 where
  pub width : length bits ≡ machine.nets + 1
  pub known : (valuation : List Bool) → Agrees machine state vector valuation → (net : ℕ) → IsKnown (dependencies_of machine) order net → bit_at bits net ≡ bit_at valuation net
  pub undriven : (net : ℕ) → (IsIn net (driven_nets machine) → ⊥) → bit_at bits net ≡ false
