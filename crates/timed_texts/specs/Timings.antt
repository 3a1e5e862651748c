-- The timing of a netlist on vectors.
use Rattle.std.specs.Prelude.{◌≤◌, ℕ, Bool, List}
use Rattle.pulse_ids.specs.Lists.{IsIn}
use Rattle.cell_netlist.specs.Netlists.{PlainNetlist}
use Rattle.cell_netlist.specs.World.{State, start}
use Rattle.timed_texts.specs.declared.cycles.PhaseTimes.{PhaseTimes}
use Rattle.timed_texts.specs.TimedCycles.{TimesCycles}
use Rattle.timed_world.specs.declared.kinds.Kind.{Kind}
use Rattle.timed_world.specs.Bounds.{PlainBound, IsBound}
use Rattle.timed_world.specs.Delays.{PlainDelays, AreGiven, AreWithin}

-- how long the phases of each cycle take, and the bound
pub record PlainTiming : Type 0 where
  pub cycles : List PhaseTimes
  pub bound : PlainBound

abbrev pub timing_of : List PhaseTimes → PlainBound → PlainTiming
timing_of cycles bound = record { cycles = cycles; bound = bound }

-- The timing of a netlist on vectors by these delays: the times of a cycle for each vector, from the netlist's start, and
-- the netlist's bound.
pub record IsTiming (delays : PlainDelays) (net : PlainNetlist) (vectors : List (List Bool)) (timing : PlainTiming) : Type 0 where
  pub last : State
  pub times : TimesCycles delays net (start net) vectors timing.cycles last
  pub bounds : IsBound delays net timing.bound

-- each phase is settled by this time
abbrev pub AreSettledBy : ℕ → List PhaseTimes → Type 0
AreSettledBy most cycles = (times : PhaseTimes) → IsIn times cycles → (times.excite ≤ most) × (times.relax ≤ most)

-- A timing by the delays that a function answers.
pub record TimedBy (gives : Kind → ℕ → Type 0) (net : PlainNetlist) (vectors : List (List Bool)) (timing : PlainTiming) : Type 0 where
  pub delays : PlainDelays
  pub given : AreGiven gives delays
  pub within : AreWithin delays
  pub is : IsTiming delays net vectors timing
  pub bounded : AreSettledBy timing.bound.time timing.cycles
