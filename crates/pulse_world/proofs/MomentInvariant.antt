-- Every order: the claim of each moment, along every run.
use Rattle.std.proofs.Common.{◌≡◌, ℕ, suc, ◌+◌, ◌≤◌, Option, Some, None, List, [], ◌∷◌, ◌++◌, ◌<◌, length, map, Bool, refl, sym, ◌∙◌, ap, subst, arith}
use Rattle.cell_netlist.specs.declared.kinds.Phase.{Phase}
use Rattle.cell_netlist.specs.declared.kinds.Phase.TheVariants.{Excite, Relax}
use Rattle.cell_netlist.specs.declared.kinds.Held.TheVariants.{Rest}
use Rattle.cell_netlist.specs.declared.lines.Cell.{Cell}
use Rattle.pulse_ids.specs.Lists.{IsIn, occurrences, bit_at}
use Rattle.cell_netlist.specs.Netlists.{PlainNetlist, wire_of, number_of_wires}
use Rattle.cell_netlist.specs.declared.kinds.CellState.{CellState}
use Rattle.cell_netlist.specs.World.{State, IsSettled, IsAtRest, preloaded, opened, pulses_in, Delivered, deliver}
use Rattle.cell_netlist.specs.Runs.{Stage, Moment, Event, Opens, Delivers, following, next_stage, IsRun, IsMoment}
use Rattle.cell_netlist.specs.RailEquations.{LatchState, IsRails, IsNetRun, first_state, next_state, link_due}
use Rattle.cell_netlist.specs.Sound.{IsSound}
use Rattle.cell_netlist.specs.NetRuns.{bits_in, latches_from}
use Rattle.pulse_ids.proofs.CallerLemmasOnCounts.{one_if}
use Rattle.cell_netlist.proofs.CallerLemmasOnSums.{map-on}
use Rattle.pulse_ids.proofs.CallerLemmas.{IsIn-from_map}
use Rattle.cell_netlist.proofs.CallerLemmasOnRuns.{vector-is}
use Rattle.cell_netlist.proofs.CallerLemmasOnDrivers.{read-low, output-read, all-grounded}
use Rattle.cell_netlist.proofs.CallerLemmasOnLinks.{IsPlain, IsFrontOn, output-plain}
use Rattle.pulse_world.specs.EveryOrder.{OrderLaw}
use Rattle.pulse_world.specs.Delivery.{rail_counts}
use Rattle.pulse_world.specs.DuePulses.{resting}
use Rattle.pulse_world.proofs.Counts.{one_if-other}
use Rattle.pulse_world.proofs.RunMoments.{Moves, moves, no_upset, counts-are, rails-at}
use Rattle.pulse_world.proofs.CellSteps.{keeps}
use Rattle.pulse_world.proofs.PulseBalance.{was_taken, now_taken, Holds, live, taken-few, taken-once, waits-once, low, goes-on}
use Rattle.pulse_world.proofs.OpeningPulses.{opening_put, cycle_put, IsExcited, excite-room, excite-opens, excite-settles, relax-opens}
use Rattle.pulse_world.proofs.SettledDrocs.{relax-room, link-taken}
use Rattle.pulse_world.proofs.SettledValues.{excited-value, whole-value, link-relaxed}
use Rattle.pulse_world.proofs.CycleEnds.{starts, ends, rests, link-next}

-- relax of a cycle, after an excite that took these wires
pub record Relaxes (net : PlainNetlist) (latches : LatchState) (vector : List Bool) (state : State) (taken : List ℕ) : Type 0 where
  pub excited : List ℕ
  pub is_excited : IsExcited net latches vector excited
  pub holds : Holds net (cycle_put net latches vector excited) (λ w. occurrences w excited) state taken

-- what holds in a phase
abbrev pub PhaseHolds : PlainNetlist → LatchState → List Bool → Phase → State → List ℕ → Type 0
PhaseHolds net latches vector Excite state taken = Holds net (opening_put net Excite vector (resting latches)) (λ w. 0) state taken
PhaseHolds net latches vector Relax state taken = Relaxes net latches vector state taken

-- what holds before the first opening
pub record Begins (net : PlainNetlist) (state : State) (taken : List ℕ) : Type 0 where
  pub cell_states : state.cell_states ≡ map (resting (first_state net)) net.cells
  pub pending : IsSettled state
  pub taken_is : taken ≡ []

-- what holds at a moment, by its phase
abbrev pub StageHolds : PlainNetlist → List (List Bool) → List (List Bool) → Option Stage → State → List ℕ → Type 0
StageHolds net vectors run None state taken = Begins net state taken
StageHolds net vectors run (Some stage) state taken =
    PhaseHolds net (latches_from net (first_state net) run stage.cycle) (bits_in vectors stage.cycle) stage.phase state taken

module _ (net : PlainNetlist) (sound : IsSound net) where
  phase-goes-on : (latches : LatchState) (vector : List Bool) (phase : Phase) (state : State) (taken : List ℕ) (wire : ℕ) (after : State)
      → PhaseHolds net latches vector phase state taken → deliver net state wire ≡ Delivered after → PhaseHolds net latches vector phase after (taken ++ wire ∷ [])
  phase-goes-on latches vector Excite state taken wire after h e =
      goes-on net sound (opening_put net Excite vector (resting latches)) (λ w. 0) (excite-room net sound vector (resting latches)) state taken h wire after e
  phase-goes-on latches vector Relax state taken wire after h e = record {
    excited = h.excited;
    is_excited = h.is_excited;
    holds = goes-on net sound (cycle_put net latches vector h.excited) (λ w. occurrences w h.excited) (relax-room net sound latches vector h.excited h.is_excited) state taken h.holds wire after e;
  }

  phase-live : (latches : LatchState) (vector : List Bool) (phase : Phase) (state : State) (taken : List ℕ) → PhaseHolds net latches vector phase state taken
      → (wire : ℕ) → (state.pending wire ≡ 0 → ⊥) → (after : State) × (deliver net state wire ≡ Delivered after)
  phase-live latches vector Excite state taken h =
      live net sound (opening_put net Excite vector (resting latches)) (λ w. 0) (excite-room net sound vector (resting latches)) state taken h
  phase-live latches vector Relax state taken h =
      live net sound (cycle_put net latches vector h.excited) (λ w. occurrences w h.excited) (relax-room net sound latches vector h.excited h.is_excited) state taken h.holds

  phase-few : (latches : LatchState) (vector : List Bool) (phase : Phase) (state : State) (taken : List ℕ) → PhaseHolds net latches vector phase state taken
      → length taken ≤ number_of_wires net
  phase-few latches vector Excite state taken h =
      taken-few net sound (opening_put net Excite vector (resting latches)) (λ w. 0) (excite-room net sound vector (resting latches)) state taken h
  phase-few latches vector Relax state taken h =
      taken-few net sound (cycle_put net latches vector h.excited) (λ w. occurrences w h.excited) (relax-room net sound latches vector h.excited h.is_excited) state taken h.holds

  -- where a phase is settled, a plain wire was taken by its bit
  pub phase-value : (latches : LatchState) (vector bits : List Bool) → IsRails net latches vector bits
      → (phase : Phase) (state : State) (taken : List ℕ) → PhaseHolds net latches vector phase state taken
      → IsSettled state → (wire : ℕ) → wire < number_of_wires net → IsPlain net wire → occurrences wire taken ≡ one_if (pulses_in phase (bit_at bits wire))
  phase-value latches vector bits rails Excite state taken h settled wire lt plain =
      excited-value net sound latches vector bits rails taken (excite-settles net latches vector state taken h settled) wire (all-grounded net sound wire lt) plain
  phase-value latches vector bits rails Relax state taken h settled wire lt plain =
      let g = all-grounded net sound wire lt in
      one_if-other (bit_at bits wire) (occurrences wire h.excited) (occurrences wire taken)
      (excited-value net sound latches vector bits rails h.excited h.is_excited wire g plain)
      (whole-value net sound latches vector h.excited h.is_excited state taken h.holds settled wire g plain)

  -- and a link by its back's state and next state
  pub phase-link : (latches : LatchState) (vector bits : List Bool) → IsRails net latches vector bits
      → (phase : Phase) (state : State) (taken : List ℕ) → PhaseHolds net latches vector phase state taken
      → IsSettled state → (wire : ℕ) (front : Cell) → IsIn front net.cells → IsFrontOn front wire → occurrences wire taken ≡ one_if (link_due phase (latches wire) (next_state net bits wire))
  phase-link latches vector bits rails Excite state taken h settled wire front i on =
      link-taken net sound latches vector taken (excite-settles net latches vector state taken h settled) wire front i on
  phase-link latches vector bits rails Relax state taken h settled wire front i on =
      link-relaxed net sound latches vector h.excited h.is_excited state taken h.holds settled wire front i on
      ∙ ap one_if (link-next net sound latches vector bits rails h.excited h.is_excited state taken h.holds settled wire front i on)

  -- a wire is taken once in a phase, and none from the number of wires on
  pub phase-once : (latches : LatchState) (vector : List Bool) (phase : Phase) (state : State) (taken : List ℕ) → PhaseHolds net latches vector phase state taken
      → (wire : ℕ) → occurrences wire taken ≤ 1
  phase-once latches vector Excite state taken h wire =
      taken-once net sound (opening_put net Excite vector (resting latches)) (λ w. 0) (excite-room net sound vector (resting latches)) state taken h wire
  phase-once latches vector Relax state taken h wire =
      taken-once net sound (cycle_put net latches vector h.excited) (λ w. occurrences w h.excited) (relax-room net sound latches vector h.excited h.is_excited) state taken h.holds wire

  -- no wire has two pulses pending
  pub phase-waits : (latches : LatchState) (vector : List Bool) (phase : Phase) (state : State) (taken : List ℕ) → PhaseHolds net latches vector phase state taken
      → (wire : ℕ) → state.pending wire ≤ 1
  phase-waits latches vector Excite state taken h wire =
      waits-once net sound (opening_put net Excite vector (resting latches)) (λ w. 0) (excite-room net sound vector (resting latches)) state taken h wire
  phase-waits latches vector Relax state taken h wire =
      waits-once net sound (cycle_put net latches vector h.excited) (λ w. occurrences w h.excited) (relax-room net sound latches vector h.excited h.is_excited) state taken h.holds wire

  pub phase-low : (latches : LatchState) (vector : List Bool) (phase : Phase) (state : State) (taken : List ℕ) → PhaseHolds net latches vector phase state taken
      → (wire : ℕ) → number_of_wires net ≤ wire → (state.pending wire ≡ 0) × (occurrences wire taken ≡ 0)
  phase-low latches vector Excite state taken h wire le =
      low net sound (opening_put net Excite vector (resting latches)) (λ w. 0) (excite-room net sound vector (resting latches)) state taken h wire le
  phase-low latches vector Relax state taken h wire le =
      low net sound (cycle_put net latches vector h.excited) (λ w. occurrences w h.excited) (relax-room net sound latches vector h.excited h.is_excited) state taken h.holds wire le

  relax-rests : (latches : LatchState) (vector bits : List Bool) → IsRails net latches vector bits → (state : State) (taken : List ℕ) → Relaxes net latches vector state taken
      → IsSettled state → IsAtRest state
  relax-rests latches vector bits rails state taken h settled cell_state i =
      let r = IsIn-from_map (keeps (was_taken (λ w. occurrences w h.excited) taken) (now_taken taken)) cell_state net.cells (subst (IsIn cell_state) h.holds.cell_states i) in
      subst (λ (c : CellState). c.held ≡ Rest) r.2 (rests net sound latches vector bits rails h.excited h.is_excited state taken h.holds settled r.0 r.1)

  pub relax-ends : (latches : LatchState) (vector bits : List Bool) → IsRails net latches vector bits → (state : State) (taken : List ℕ) → Relaxes net latches vector state taken
      → IsSettled state → state.cell_states ≡ map (resting (next_state net bits)) net.cells
  relax-ends latches vector bits rails state taken h settled =
      h.holds.cell_states ∙ map-on (keeps (was_taken (λ w. occurrences w h.excited) taken) (now_taken taken)) (resting (next_state net bits))
      net.cells (ends net sound latches vector bits rails h.excited h.is_excited state taken h.holds settled)

  module _ (vectors run : List (List Bool)) where
    abbrev latches_in : ℕ → LatchState
    latches_in cycle = latches_from net (first_state net) run cycle

    after-opens : (cycle : ℕ) (phase : Phase) (before after : State) (taken : List ℕ) → PhaseHolds net (latches_in cycle) (bits_in vectors cycle) phase before taken → IsSettled before
        → IsRails net (latches_in cycle) (bits_in vectors cycle) (bits_in run cycle) → after ≡ opened net (following cycle phase).phase (bits_in vectors (following cycle phase).cycle) before
        → StageHolds net vectors run (Some (following cycle phase)) after []
    after-opens cycle Excite before after taken h settled rails is = record {
      excited = taken;
      is_excited = excite-settles net (latches_in cycle) (bits_in vectors cycle) before taken h settled;
      holds = relax-opens net (latches_in cycle) (bits_in vectors cycle) before after taken h settled is;
    }
    after-opens cycle Relax before after taken h settled rails is =
        let next : next_state net (bits_in run cycle) ≡ latches_in (cycle + 1) = let e : suc cycle ≡ cycle + 1 = omega arith in ap latches_in e in
        excite-opens net (latches_in (cycle + 1)) (bits_in vectors (cycle + 1)) before after
        (relax-ends (latches_in cycle) (bits_in vectors cycle) (bits_in run cycle) rails before taken h settled ∙ ap (λ latches. map (resting latches) net.cells) next) is

    stage-opens : (stage : Option Stage) (before after : State) (taken : List ℕ) → StageHolds net vectors run stage before taken → IsSettled before
        → ((s : Stage) → stage ≡ Some s → IsRails net (latches_in s.cycle) (bits_in vectors s.cycle) (bits_in run s.cycle))
        → after ≡ opened net (next_stage stage).phase (bits_in vectors (next_stage stage).cycle) before → StageHolds net vectors run (Some (next_stage stage)) after []
    stage-opens None before after taken h settled rails is = excite-opens net (first_state net) (bits_in vectors 0) before after h.cell_states is
    stage-opens (Some stage) before after taken h settled rails is = after-opens stage.cycle stage.phase before after taken h settled (rails stage refl) is

    stage-goes-on : (stage : Option Stage) (state : State) (taken : List ℕ) (wire : ℕ) (after : State) → StageHolds net vectors run stage state taken
        → deliver net state wire ≡ Delivered after → StageHolds net vectors run stage after (taken ++ wire ∷ [])
    stage-goes-on None state taken wire after h e =
        let m : Moves net state wire after = moves net state wire after e in let z = h.pending wire in let p = m.pending in absurd (omega arith)
    stage-goes-on (Some stage) state taken wire after h e =
        phase-goes-on (latches_in stage.cycle) (bits_in vectors stage.cycle) stage.phase state taken wire after h e

    stage-live : (stage : Option Stage) (state : State) (taken : List ℕ) → StageHolds net vectors run stage state taken
        → (wire : ℕ) → (state.pending wire ≡ 0 → ⊥) → (after : State) × (deliver net state wire ≡ Delivered after)
    stage-live None state taken h wire pending = absurd (pending (h.pending wire))
    stage-live (Some stage) state taken h wire pending = phase-live (latches_in stage.cycle) (bits_in vectors stage.cycle) stage.phase state taken h wire pending

    stage-few : (stage : Option Stage) (state : State) (taken : List ℕ) → StageHolds net vectors run stage state taken → length taken ≤ number_of_wires net
    stage-few None state taken h = let e = ap length h.taken_is in omega arith
    stage-few (Some stage) state taken h = phase-few (latches_in stage.cycle) (bits_in vectors stage.cycle) stage.phase state taken h

    module _ (is_net_run : IsNetRun net vectors run) where
      -- the claim holds at each moment
      pub holds-at : (events : List Event) (moment : Moment) → IsRun net vectors events moment → StageHolds net vectors run moment.stage moment.state moment.delivered
      holds-at [] moment is_run =
          subst (λ (m : Moment). StageHolds net vectors run m.stage m.state m.delivered) (sym is_run) (record {
            cell_states = map-on preloaded (resting (first_state net)) net.cells (starts net sound);
            pending = λ wire. refl;
            taken_is = refl;
          })
      holds-at (Opens ∷ earlier) moment (before, is_run, opens) =
          let h = holds-at earlier before is_run in
          let v = vector-is vectors (next_stage before.stage).cycle opens.vector opens.of_cycle in
          let is = opens.state ∙ ap (λ vector. opened net (next_stage before.stage).phase vector before.state) v in
          let after = stage-opens before.stage before.state moment.state before.delivered h opens.settled (λ s e. rails-at net vectors run earlier before is_run is_net_run s e) is in
          subst (λ stage. StageHolds net vectors run stage moment.state moment.delivered) (sym opens.stage)
          (subst (λ taken. StageHolds net vectors run (Some (next_stage before.stage)) moment.state taken) (sym opens.delivered) after)
      holds-at (Delivers wire ∷ earlier) moment (before, is_run, delivers) =
          let h = holds-at earlier before is_run in
          let after = stage-goes-on before.stage before.state before.delivered wire moment.state h delivers.state in
          subst (λ stage. StageHolds net vectors run stage moment.state moment.delivered) (sym delivers.stage)
          (subst (λ taken. StageHolds net vectors run before.stage moment.state taken) (sym delivers.delivered) after)

      -- in a phase
      pub holds-in : (events : List Event) (moment : Moment) → IsRun net vectors events moment → (stage : Stage) → moment.stage ≡ Some stage
          → PhaseHolds net (latches_in stage.cycle) (bits_in vectors stage.cycle) stage.phase moment.state moment.delivered
      holds-in events moment is_run stage e =
          subst (λ stage. StageHolds net vectors run stage moment.state moment.delivered) e (holds-at events moment is_run)

      counts-in : (events : List Event) (moment : Moment) → IsRun net vectors events moment → (stage : Stage) → moment.stage ≡ Some stage → IsSettled moment.state
          → moment.state.counted ≡ rail_counts (bits_in run stage.cycle) stage.phase net.output_rails
      counts-in events moment is_run stage e settled =
          counts-are net vectors events moment is_run
          ∙ map-on (λ rail. occurrences (wire_of rail) moment.delivered)
          (λ rail. one_if (pulses_in stage.phase (bit_at (bits_in run stage.cycle) (wire_of rail)))) net.output_rails (λ rail i.
          phase-value (latches_in stage.cycle) (bits_in vectors stage.cycle) (bits_in run stage.cycle)
          (rails-at net vectors run events moment is_run is_net_run stage e) stage.phase moment.state moment.delivered
          (holds-in events moment is_run stage e) settled (wire_of rail) (read-low net (wire_of rail) (output-read net rail i)) (output-plain net sound rail i))

      rests-in : (events : List Event) (moment : Moment) → IsRun net vectors events moment → (stage : Stage) → moment.stage ≡ Some stage → stage.phase ≡ Relax → IsSettled moment.state
          → IsAtRest moment.state
      rests-in events moment is_run stage e relax settled =
          relax-rests (latches_in stage.cycle) (bits_in vectors stage.cycle) (bits_in run stage.cycle)
          (rails-at net vectors run events moment is_run is_net_run stage e) moment.state moment.delivered
          (subst (λ phase. PhaseHolds net (latches_in stage.cycle) (bits_in vectors stage.cycle) phase moment.state moment.delivered) relax
          (holds-in events moment is_run stage e)) settled

pub order_law : OrderLaw
order_law net sound vectors run is_net_run = record {
  no_upset = λ moment m wire. no_upset net moment.state wire (live-at moment m wire);
  live = live-at;
  few = λ moment m. stage-few net sound vectors run moment.stage moment.state moment.delivered (holds-at net sound vectors run is_net_run m.0 moment m.1);
  counts = λ moment m. counts-in net sound vectors run is_net_run m.0 moment m.1;
  at_rest = λ moment m. rests-in net sound vectors run is_net_run m.0 moment m.1;
}
  where
    live-at : (moment : Moment) → IsMoment net vectors moment → (wire : ℕ) → (moment.state.pending wire ≡ 0 → ⊥) → (after : State) × (deliver net moment.state wire ≡ Delivered after)
    live-at moment m = stage-live net sound vectors run moment.stage moment.state moment.delivered (holds-at net sound vectors run is_net_run m.0 moment m.1)
