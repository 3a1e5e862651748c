-- For callers: deliveries in turn under other names, and one more of them; the worlds after the opening of a phase.
use Rattle.std.proofs.Common.{◌≡◌, ◌+◌, ℕ, Bool, List, [], ◌∷◌, ◌++◌, length}
use Rattle.cell_netlist.specs.declared.kinds.Phase.TheVariants.{Excite, Relax}
use Rattle.pulse_world.specs.WorldMoments.{ExciteIsOpened, RelaxIsOpened}
use Rattle.pulse_world.specs.Worlds.{PlainWorld, phase_of, opened_world, IsWorld}
use Rattle.schedule_replay.specs.Orders.{IsBetween}
use Rattle.schedule_replay.specs.Settling.{DeliversNamed, DeliversInTurn, Anywhere}
use Rattle.schedule_replay.proofs.Turns as turns

-- where each place that may be named in one way may be named in another
pub in_turn_as : (names others : ℕ → ℕ → ℕ → Type 0) → ((step count place : ℕ) → names step count place → others step count place)
    → (step : ℕ) (wires : List ℕ) (before after : PlainWorld) → DeliversInTurn names step before wires after → DeliversInTurn others step before wires after
in_turn_as names others f step [] before after h = h
in_turn_as names others f step (wire ∷ wires) before after (mid, one, rest) =
    (mid, record { place = one.place; named = f step (length before.queue) one.place one.named; delivers = one.delivers }, in_turn_as names others f (step + 1) wires mid after rest)

-- at any places
pub at_any_place : (names : ℕ → ℕ → ℕ → Type 0) (step other : ℕ) (wires : List ℕ) (before after : PlainWorld) → DeliversInTurn names step before wires after
    → DeliversInTurn Anywhere other before wires after
at_any_place = turns.at-any-place

-- and one more
pub one_more : (names : ℕ → ℕ → ℕ → Type 0) (step : ℕ) (wires : List ℕ) (before mid after : PlainWorld) (wire : ℕ) → DeliversInTurn names step before wires mid
    → DeliversNamed names (step + length wires) mid after wire → DeliversInTurn names step before (wires ++ wire ∷ []) after
one_more = turns.one-more

-- the phases that are opened from a world are worlds
pub excited_world : ExciteIsOpened → (before : PlainWorld) (vector : List Bool) → IsBetween before → length vector ≡ before.net.inputs
    → IsWorld (opened_world Excite vector before)
excited_world excites before vector between width =
    let is = between.world in
    let next = excites before is.reached.vectors is.reached.moment is.reached.stands between.phase between.settled vector in
    record { sound = is.sound; few = is.few; reached = record { vectors = is.reached.vectors ++ vector ∷ []; moment = next.0; stands = next.2 }; width = width }

pub relaxed_world : RelaxIsOpened → (middle : PlainWorld) → IsWorld middle → phase_of middle.opened ≡ Excite → middle.queue ≡ []
    → IsWorld (opened_world Relax middle.vector middle)
relaxed_world relaxes middle is excite settled =
    let next = relaxes middle is.reached.vectors is.reached.moment is.reached.stands excite settled in
    record { sound = is.sound; few = is.few; reached = record { vectors = is.reached.vectors; moment = next.0; stands = next.2 }; width = is.width }
