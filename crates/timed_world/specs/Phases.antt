-- What the parts of a timed phase leave.
use Rattle.std.specs.Prelude.{◌≡◌, ◌≤◌, ◌+◌, ◌-◌, ℕ, List, [], map, drop, length}
use Rattle.pulse_ids.specs.Lists.{occurrences}
use Rattle.cell_netlist.specs.Netlists.{PlainNetlist}
use Rattle.cell_netlist.specs.World.{State}
use Rattle.pulse_world.specs.Worlds.{PlainWorld, DeliversAt}
use Rattle.timed_world.specs.declared.kinds.Kind.{Kind}
use Rattle.timed_world.specs.Bounds.{PlainBound, IsBound}
use Rattle.timed_world.specs.Delays.{PlainDelays, AreGiven, AreWithin, lag}
use Rattle.timed_world.specs.TimedPhases.{IsTimedPhase}
use Rattle.timed_world.specs.Times.{turn}

-- A timed phase by the delays that a function answers. No bound by these delays is below its time.
pub record TimedPhase (gives : Kind → ℕ → Type 0) (net : PlainNetlist) (state : State) (wires : List ℕ) (time : ℕ) (last : State) : Type 0 where
  pub delays : PlainDelays
  pub given : AreGiven gives delays
  pub within : AreWithin delays
  pub timed : IsTimedPhase delays net state wires time last
  pub bounded : (bound : PlainBound) → IsBound delays net bound → time ≤ bound.time

-- the turns of wires that are due at these times
abbrev pub turns_of : (ℕ → ℕ) → List ℕ → List ℕ
turns_of due wires = map (λ wire. turn (due wire) wire) wires

-- exactly these turns more
abbrev pub HasMore : List ℕ → List ℕ → List ℕ → Type 0
HasMore before more after = ((other : ℕ) → occurrences other after ≡ occurrences other before + occurrences other more) × (length after ≡ length before + length more)

-- the pulses of the queue wait for their times, and nothing else waits
abbrev pub AreTied : (ℕ → ℕ) → List ℕ → List ℕ → Type 0
AreTied due queue turns = HasMore [] (turns_of due queue) turns

-- the pulse of a wire is delivered at its time, and what is emitted waits for its own
pub record DeliversOne (delays : PlainDelays) (time wire : ℕ) (before after : PlainWorld) (turns turns_after : List ℕ) : Type 0 where
  pub place : ℕ
  pub delivers : DeliversAt before after place wire
  pub more : HasMore turns (turns_of (λ other. time + lag delays before.net other) (drop (length before.queue - 1) after.queue)) turns_after
