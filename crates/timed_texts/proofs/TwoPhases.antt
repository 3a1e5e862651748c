-- A cycle by two timed phases.
use Rattle.std.proofs.Common.{◌≡◌, ℕ, Bool, List, ap, subst, ◌∙◌}
use Rattle.cell_netlist.specs.declared.kinds.Phase.TheVariants.{Excite, Relax}
use Rattle.cell_netlist.specs.Netlists.{PlainNetlist}
use Rattle.cell_netlist.specs.World.{State, opened}
use Rattle.pulse_world.specs.Worlds.{PlainWorld, state_of, opened_world}
use Rattle.schedule_replay.specs.Settling.{Keeps}
use Rattle.timed_texts.specs.declared.cycles.PhaseTimes.{PhaseTimes}
use Rattle.timed_texts.specs.TimedCycles.{TimesCycleBy}
use Rattle.timed_world.proofs.CallerLemmas.{same_delays}
use Rattle.timed_world.specs.declared.kinds.Kind.{Kind}
use Rattle.timed_world.specs.Delays.{PlainDelays, HasOneAnswer, AreGiven}
use Rattle.timed_world.specs.Phases.{TimedPhase}
use Rattle.timed_world.specs.TimedPhases.{IsTimedPhase}

module _ (gives : Kind → ℕ → Type 0) (same : HasOneAnswer gives) (net : PlainNetlist) where
  -- a phase of all delays that are given
  by_these : (state last : State) (wires : List ℕ) (time : ℕ) → TimedPhase gives net state wires time last → (delays : PlainDelays) → AreGiven gives delays
      → IsTimedPhase delays net state wires time last
  by_these state last wires time phase delays given =
      subst (λ d. IsTimedPhase d net state wires time last) (same_delays gives same phase.delays delays phase.given given) phase.timed

  -- the state of a world whose next phase was opened
  state_opened : (world : PlainWorld) (vector : List Bool) → world.net ≡ net → (wires : List ℕ) (time : ℕ) (last : State) (delays : PlainDelays)
      → IsTimedPhase delays net (state_of (opened_world Excite vector world)) wires time last → IsTimedPhase delays net (opened net Excite vector (state_of world)) wires time last
  state_opened world vector e wires time last delays h = subst (λ n. IsTimedPhase delays net (opened n Excite vector (state_of world)) wires time last) e h

  state_relaxed : (world : PlainWorld) (vector : List Bool) → world.net ≡ net → (wires : List ℕ) (time : ℕ) (last : State) (delays : PlainDelays)
      → IsTimedPhase delays net (state_of (opened_world Relax vector world)) wires time last → IsTimedPhase delays net (opened net Relax vector (state_of world)) wires time last
  state_relaxed world vector e wires time last delays h = subst (λ n. IsTimedPhase delays net (opened n Relax vector (state_of world)) wires time last) e h

  pub cycle_timed : (vector : List Bool) (before excited middle relaxed after : PlainWorld) (first second : List ℕ) (times : PhaseTimes) → before.net ≡ net
      → excited ≡ opened_world Excite vector before → TimedPhase gives net (state_of excited) first times.excite (state_of middle) → Keeps excited middle
      → relaxed ≡ opened_world Relax middle.vector middle → TimedPhase gives net (state_of relaxed) second times.relax (state_of after)
      → TimesCycleBy gives net (state_of before) vector times (state_of after)
  cycle_timed vector before excited middle relaxed after first second times here opens one keeps reopens two delays given =
      let one_by = by_these (state_of excited) (state_of middle) first times.excite one delays given in
      let two_by = by_these (state_of relaxed) (state_of after) second times.relax two delays given in
      let kept : middle.vector ≡ vector = keeps.vector ∙ ap (λ (w : PlainWorld). w.vector) opens in
      let there : middle.net ≡ net = keeps.net ∙ (ap (λ (w : PlainWorld). w.net) opens ∙ here) in
      let again : relaxed ≡ opened_world Relax vector middle = reopens ∙ ap (λ v. opened_world Relax v middle) kept in
      record {
        middle = state_of middle;
        excited = first;
        excites = state_opened before vector here first times.excite (state_of middle) delays
            (subst (λ w. IsTimedPhase delays net (state_of w) first times.excite (state_of middle)) opens one_by);
        relaxed = second;
        relaxes = state_relaxed middle vector there second times.relax (state_of after) delays
            (subst (λ w. IsTimedPhase delays net (state_of w) second times.relax (state_of after)) again two_by);
      }
