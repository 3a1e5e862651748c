-- The cycles of a timed simulation, and how long their phases take.
use Rattle.std.specs.Prelude.{◌≡◌, ℕ, Bool, List, [], ◌∷◌}
use Rattle.cell_netlist.specs.declared.kinds.Phase.TheVariants.{Excite, Relax}
use Rattle.cell_netlist.specs.Netlists.{PlainNetlist}
use Rattle.cell_netlist.specs.World.{State, start, opened}
use Rattle.timed_texts.specs.declared.cycles.PhaseTimes.{PhaseTimes}
use Rattle.timed_world.specs.declared.kinds.Kind.{Kind}
use Rattle.timed_world.specs.Delays.{PlainDelays, AreGiven}
use Rattle.timed_world.specs.TimedPhases.{IsTimedPhase}

-- A cycle from a settled state: excite, opened with its vector, and then relax are timed phases of these times, and lead
-- to another state.
pub record TimesCycle (delays : PlainDelays) (net : PlainNetlist) (before : State) (vector : List Bool) (times : PhaseTimes) (after : State) : Type 0 where
  pub middle : State
  pub excited : List ℕ
  pub excites : IsTimedPhase delays net (opened net Excite vector before) excited times.excite middle
  pub relaxed : List ℕ
  pub relaxes : IsTimedPhase delays net (opened net Relax vector middle) relaxed times.relax after

-- a cycle for each vector, one after the other
abbrev pub TimesCycles : PlainDelays → PlainNetlist → State → List (List Bool) → List PhaseTimes → State → Type 0
TimesCycles delays net before [] [] after = after ≡ before
TimesCycles delays net before [] (times ∷ cycles) after = ⊥
TimesCycles delays net before (vector ∷ vectors) [] after = ⊥
TimesCycles delays net before (vector ∷ vectors) (times ∷ cycles) after =
    (next : State) × TimesCycle delays net before vector times next × TimesCycles delays net next vectors cycles after

-- a cycle by the delays that a function answers
abbrev pub TimesCycleBy : (Kind → ℕ → Type 0) → PlainNetlist → State → List Bool → PhaseTimes → State → Type 0
TimesCycleBy gives net before vector times after = (delays : PlainDelays) → AreGiven gives delays → TimesCycle delays net before vector times after

-- and all cycles from the start
abbrev pub TimesCyclesBy : (Kind → ℕ → Type 0) → PlainNetlist → List (List Bool) → List PhaseTimes → Type 0
TimesCyclesBy gives net vectors cycles =
    (last : State) × ((delays : PlainDelays) → AreGiven gives delays → TimesCycles delays net (start net) vectors cycles last)
