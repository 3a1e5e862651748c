-- Laws of timings.
use Rattle.std.specs.Prelude.{◌≡◌, Bool, List, ℕ}
use Rattle.cell_netlist.specs.Netlists.{PlainNetlist}
use Rattle.cell_netlist.specs.Sound.{IsSound}
use Rattle.timed_texts.specs.Texts.{IsTimedText}
use Rattle.timed_texts.specs.Timings.{PlainTiming, IsTiming, AreSettledBy}
use Rattle.timed_world.specs.Bounding.{numbers_of}
use Rattle.timed_world.specs.Delays.{PlainDelays}

-- no phase of a sound netlist's timing takes longer than its bound
abbrev pub PhasesWithinBound : Type 0
PhasesWithinBound =
    (net : PlainNetlist) → IsSound net → (delays : PlainDelays) (vectors : List (List Bool)) (timing : PlainTiming)
    → IsTiming delays net vectors timing → AreSettledBy timing.bound.time timing.cycles

-- two timings are of the same times and the same path
pub record AreSame (one other : PlainTiming) : Type 0 where
  pub cycles : one.cycles ≡ other.cycles
  pub time : one.bound.time ≡ other.bound.time
  pub path : numbers_of one.bound.path ≡ numbers_of other.bound.path

-- a sound netlist has one timing on vectors by the same delays
abbrev pub OneTiming : Type 0
OneTiming =
    (net : PlainNetlist) → IsSound net → (delays : PlainDelays) (vectors : List (List Bool)) (one other : PlainTiming)
    → IsTiming delays net vectors one → IsTiming delays net vectors other → AreSame one other

-- and one text
abbrev pub OneTimedText : Type 0
OneTimedText =
    (net : PlainNetlist) → IsSound net → (delays : PlainDelays) (vectors : List (List Bool)) (text other : List ℕ)
    → IsTimedText delays net vectors text → IsTimedText delays net vectors other → text ≡ other
