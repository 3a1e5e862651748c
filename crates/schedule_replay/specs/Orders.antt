-- Orders: functions that name one place for each step and each number of pending pulses.
use Rattle.std.specs.Prelude.{◌≡◌, ◌+◌, ◌<◌, ◌≤◌, ℕ, Bool, List, [], ◌∷◌, length, map}
use Rattle.cell_netlist.specs.declared.kinds.Phase.TheVariants.{Excite, Relax}
use Rattle.pulse_ids.specs.Lists.{IsIn}
use Rattle.pulse_world.specs.Worlds.{PlainWorld, phase_of, opened_world, IsWorld}
use Rattle.schedule_replay.specs.Settling.{DeliversInTurn}

-- the place is the order's
abbrev pub named_by : (ℕ → ℕ → ℕ) → ℕ → ℕ → ℕ → Type 0
named_by place_of step count place = place ≡ place_of step count

-- where something is pending, the order names a pending pulse
abbrev pub NamesPending : (ℕ → ℕ → ℕ) → Type 0
NamesPending place_of = (step count : ℕ) → 1 ≤ count → place_of step count < count

-- an order's deliveries of these wires settle a phase
abbrev pub SettlesBy : (ℕ → ℕ → ℕ) → ℕ → PlainWorld → List ℕ → PlainWorld → Type 0
SettlesBy place_of step before wires after = DeliversInTurn (named_by place_of) step before wires after × (after.queue ≡ [])

-- an order fixes the deliveries that settle a phase, and the world after them
abbrev pub OneList : Type 0
OneList =
    (place_of : ℕ → ℕ → ℕ) (step : ℕ) (before : PlainWorld) (wires others : List ℕ) (after other : PlainWorld)
    → SettlesBy place_of step before wires after → SettlesBy place_of step before others other → (wires ≡ others) × (after ≡ other)

-- from every world the deliveries of an order settle the phase
abbrev pub OrdersSettle : Type 0
OrdersSettle =
    (place_of : ℕ → ℕ → ℕ) → NamesPending place_of → (step : ℕ) (before : PlainWorld) → IsWorld before
    → (wires : List ℕ) × (after : PlainWorld) × SettlesBy place_of step before wires after

-- a cycle: its vector, and the wires that its two phases delivered
pub record Cycle : Type 0 where
  pub vector : List Bool
  pub excite : List ℕ
  pub relax : List ℕ

abbrev pub vector_of : Cycle → List Bool
vector_of cycle = cycle.vector

-- the deliveries of one cycle lead from a settled world to another, each at a named place; the steps are numbered on
pub record MakesCycle (names : ℕ → ℕ → ℕ → Type 0) (step : ℕ) (before : PlainWorld) (cycle : Cycle) (after : PlainWorld) : Type 0 where
  pub middle : PlainWorld
  pub excites : DeliversInTurn names step (opened_world Excite cycle.vector before) cycle.excite middle
  pub rests : middle.queue ≡ []
  pub relaxes : DeliversInTurn names (step + length cycle.excite) (opened_world Relax cycle.vector middle) cycle.relax after
  pub settled : after.queue ≡ []

-- the same of several cycles, one after the other
abbrev pub MakesCycles : (ℕ → ℕ → ℕ → Type 0) → ℕ → PlainWorld → List Cycle → PlainWorld → Type 0
MakesCycles names step before [] after = after ≡ before
MakesCycles names step before (cycle ∷ cycles) after =
    (mid : PlainWorld) × MakesCycle names step before cycle mid
    × MakesCycles names (step + length cycle.excite + length cycle.relax) mid cycles after

-- a world between two cycles
pub record IsBetween (between : PlainWorld) : Type 0 where
  pub world : IsWorld between
  pub phase : phase_of between.opened ≡ Relax
  pub settled : between.queue ≡ []

-- on vectors of the netlist's width an order has all cycles
abbrev pub CyclesThere : Type 0
CyclesThere =
    (place_of : ℕ → ℕ → ℕ) → NamesPending place_of → (vectors : List (List Bool)) (step : ℕ) (before : PlainWorld) → IsBetween before
    → ((vector : List Bool) → IsIn vector vectors → length vector ≡ before.net.inputs)
    → (cycles : List Cycle) × (after : PlainWorld) × (map vector_of cycles ≡ vectors)
    × MakesCycles (named_by place_of) step before cycles after × IsBetween after

-- and it fixes them, and the world after them
abbrev pub OneListOfCycles : Type 0
OneListOfCycles =
    (place_of : ℕ → ℕ → ℕ) (step : ℕ) (before : PlainWorld) (cycles others : List Cycle) (after other : PlainWorld)
    → map vector_of cycles ≡ map vector_of others → MakesCycles (named_by place_of) step before cycles after
    → MakesCycles (named_by place_of) step before others other → (cycles ≡ others) × (after ≡ other)
