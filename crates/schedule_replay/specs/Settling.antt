-- Deliveries one after the other.
use Rattle.std.specs.Prelude.{◌≡◌, ◌+◌, ◌≤◌, ℕ, List, [], ◌∷◌, length, ⊤}
use Rattle.cell_netlist.specs.Netlists.{number_of_wires}
use Rattle.pulse_world.specs.Worlds.{PlainWorld, DeliversAt, IsWorld}

-- One delivery of the pulse at a place that may be named for the step and the number of pending pulses.
pub record DeliversNamed (names : ℕ → ℕ → ℕ → Type 0) (step : ℕ) (before after : PlainWorld) (wire : ℕ) : Type 0 where
  pub place : ℕ
  pub named : names step (length before.queue) place
  pub delivers : DeliversAt before after place wire

-- Deliveries of these wires lead from one world to another, each at a named place; the steps are numbered on.
abbrev pub DeliversInTurn : (ℕ → ℕ → ℕ → Type 0) → ℕ → PlainWorld → List ℕ → PlainWorld → Type 0
DeliversInTurn names step before [] after = after ≡ before
DeliversInTurn names step before (wire ∷ wires) after =
    (mid : PlainWorld) × DeliversNamed names step before mid wire × DeliversInTurn names (step + 1) mid wires after

-- any place
abbrev pub Anywhere : ℕ → ℕ → ℕ → Type 0
Anywhere step count place = ⊤

-- Deliveries of these wires, one after the other, lead from one world to another.
abbrev pub DeliversAll : PlainWorld → List ℕ → PlainWorld → Type 0
DeliversAll before wires after = DeliversInTurn Anywhere 0 before wires after

-- what deliveries keep
pub record Keeps (before after : PlainWorld) : Type 0 where
  pub world : IsWorld after
  pub net : after.net ≡ before.net
  pub opened : after.opened ≡ before.opened
  pub vector : after.vector ≡ before.vector

-- deliveries from a world lead to a world of the same netlist in the same phase
abbrev pub DeliveriesKeep : Type 0
DeliveriesKeep = (wires : List ℕ) (before after : PlainWorld) → IsWorld before → DeliversAll before wires after → Keeps before after

-- and there are at most as many of them as wires
abbrev pub DeliveriesAreFew : Type 0
DeliveriesAreFew =
    (wires : List ℕ) (before after : PlainWorld) → IsWorld before → DeliversAll before wires after → length wires ≤ number_of_wires before.net
