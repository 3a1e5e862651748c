-- Which wires pulse in each phase: at a settled moment each wire was taken as it is due.
use Rattle.std.proofs.Common.{◌≡◌, ℕ, zero, suc, ◌≤◌, ◌<◌, inl, inr, Option, Some, None, List, [], ◌∷◌, ◌++◌, map, Bool, true, false, if◌then◌else◌, refl, ◌∙◌, ap, subst, arith}
use Rattle.cell_netlist.specs.declared.kinds.Phase.TheVariants.{Relax}
use Rattle.pulse_ids.specs.Lists.{IsIn, occurrences, bit_at}
use Rattle.cell_netlist.specs.Netlists.{PlainNetlist, number_of_wires}
use Rattle.cell_netlist.specs.World.{IsSettled, pulses_in}
use Rattle.cell_netlist.specs.Runs.{Stage, Moment, IsMoment}
use Rattle.cell_netlist.specs.RailEquations.{LatchState, IsNetRun, is_due, is_link, link_due, first_state, next_state}
use Rattle.cell_netlist.specs.Sound.{IsSound}
use Rattle.cell_netlist.specs.NetRuns.{bits_in, latches_from}
use Rattle.pulse_ids.proofs.CallerLemmasOnCounts.{one_if, occurrences-append, occurrences-IsIn, IsIn-occurrences, test_same}
use Rattle.std.proofs.lemmas.Bool.{cases_lt}
use Rattle.cell_netlist.proofs.CallerLemmasOnLinks.{front-of, plain-of}
use Rattle.pulse_world.specs.EveryOrder.{FollowLaw}
use Rattle.pulse_world.specs.DuePulses.{IsDueIn, resting}
use Rattle.pulse_world.proofs.RunMoments.{rails-at}
use Rattle.pulse_world.proofs.MomentInvariant.{PhaseHolds, StageHolds, holds-at, phase-value, phase-link, phase-once, phase-waits, holds-in, relax-ends}
use Rattle.pulse_world.proofs.SettledMoments.{after-one, low-at, goes-on-at, goes-on}

module _ (net : PlainNetlist) (sound : IsSound net) (vectors run : List (List Bool)) (is_net_run : IsNetRun net vectors run) where
  abbrev latches_in : ℕ → LatchState
  latches_in cycle = latches_from net (first_state net) run cycle

  -- at a settled moment each wire was taken as it is due
  pub due-at : (moment : Moment) (m : IsMoment net vectors moment) (stage : Stage) → moment.stage ≡ Some stage → IsSettled moment.state → (wire : ℕ) → wire < number_of_wires net
      → occurrences wire moment.delivered ≡ one_if (is_due net (latches_in stage.cycle) (bits_in run stage.cycle) stage.phase wire)
  due-at moment m stage e settled wire lt = go (is_link net wire) refl
    where
      go : (link : Bool) → is_link net wire ≡ link
          → occurrences wire moment.delivered ≡ one_if
          (if link then link_due stage.phase (latches_in stage.cycle wire) (next_state net (bits_in run stage.cycle) wire) else pulses_in
          stage.phase (bit_at (bits_in run stage.cycle) wire))
      go true k =
          let f = front-of net wire k in
          phase-link net sound (latches_in stage.cycle) (bits_in vectors stage.cycle) (bits_in run stage.cycle)
          (rails-at net vectors run m.0 moment m.1 is_net_run stage e) stage.phase moment.state moment.delivered
          (holds-in net sound vectors run is_net_run m.0 moment m.1 stage e) settled wire f.0 f.1 f.2
      go false k =
          phase-value net sound (latches_in stage.cycle) (bits_in vectors stage.cycle) (bits_in run stage.cycle)
          (rails-at net vectors run m.0 moment m.1 is_net_run stage e) stage.phase moment.state moment.delivered
          (holds-in net sound vectors run is_net_run m.0 moment m.1 stage e) settled wire lt (plain-of net wire k)

  -- before the first opening nothing was delivered, and nothing is pending
  unopened-at : (moment : Moment) → IsMoment net vectors moment → moment.stage ≡ None → (moment.delivered ≡ []) × IsSettled moment.state
  unopened-at moment m e =
      let h = subst (λ stage. StageHolds net vectors run stage moment.state moment.delivered) e (holds-at net sound vectors run is_net_run m.0 moment m.1) in
      (h.taken_is, h.pending)

  once-at : (moment : Moment) → IsMoment net vectors moment → (stage : Option Stage) → moment.stage ≡ stage → (wire : ℕ) → occurrences wire moment.delivered ≤ 1
  once-at moment m None e wire = let z = ap (occurrences wire) (unopened-at moment m e).0 in omega arith
  once-at moment m (Some stage) e wire =
      phase-once net sound (latches_in stage.cycle) (bits_in vectors stage.cycle) stage.phase moment.state moment.delivered (holds-in net sound vectors run is_net_run m.0 moment m.1 stage e) wire

  one-least : (test : Bool) → 1 ≤ one_if test → test ≡ true
  one-least true h = refl
  one-least false h = absurd (omega arith)

  waits-at : (moment : Moment) → IsMoment net vectors moment → (stage : Option Stage) → moment.stage ≡ stage → (wire : ℕ) → moment.state.pending wire ≤ 1
  waits-at moment m None e wire = let z = (unopened-at moment m e).1 wire in omega arith
  waits-at moment m (Some stage) e wire =
      phase-waits net sound (latches_in stage.cycle) (bits_in vectors stage.cycle) stage.phase moment.state moment.delivered
      (holds-in net sound vectors run is_net_run m.0 moment m.1 stage e) wire

  -- what was delivered is due
  delivered-due : (moment : Moment) (m : IsMoment net vectors moment) (stage : Stage) → moment.stage ≡ Some stage
      → (wire : ℕ) → IsIn wire moment.delivered → IsDueIn net run stage wire
  delivered-due moment m stage e wire i = elim (cases_lt wire (number_of_wires net)) [
    | inl lt ↦
        let s = goes-on-at net sound vectors run is_net_run moment m stage e in
        let d = due-at s.later s.reached stage (s.stage ∙ e) s.settled wire lt in
        let o = IsIn-occurrences wire moment.delivered i in
        let g = s.goes_on wire in
        (lt, one-least (is_due net (latches_in stage.cycle) (bits_in run stage.cycle) stage.phase wire) (omega arith))
    | inr le ↦
        let z = (low-at net sound vectors run is_net_run moment m stage e wire le).1 in
        let o = IsIn-occurrences wire moment.delivered i in absurd (omega arith)
  ]

  last-in : (wire : ℕ) (taken : List ℕ) → IsIn wire (taken ++ wire ∷ [])
  last-in wire [] = inl refl
  last-in wire (w ∷ taken) = inr (last-in wire taken)

  -- and what is pending
  pending-due : (moment : Moment) (m : IsMoment net vectors moment) (stage : Stage) → moment.stage ≡ Some stage
      → (wire : ℕ) → (moment.state.pending wire ≡ 0 → ⊥) → IsDueIn net run stage wire
  pending-due moment m stage e wire pending =
      let d = after-one net sound vectors run is_net_run moment m wire pending in
      delivered-due (record { stage = moment.stage; delivered = moment.delivered ++ wire ∷ []; state = d.0 }) d.1 stage e wire (last-in wire moment.delivered)

  settled-due : (moment : Moment) (m : IsMoment net vectors moment) (stage : Stage) → moment.stage ≡ Some stage → IsSettled moment.state
      → (wire : ℕ) → IsDueIn net run stage wire → IsIn wire moment.delivered
  settled-due moment m stage e settled wire due =
      let d = due-at moment m stage e settled wire due.0 in
      let f = ap one_if due.1 in occurrences-IsIn wire moment.delivered (omega arith)

  -- a pending wire was not delivered
  fresh : (moment : Moment) (m : IsMoment net vectors moment) (wire : ℕ) → (moment.state.pending wire ≡ 0 → ⊥) → IsIn wire moment.delivered → ⊥
  fresh moment m wire pending i =
      let d = after-one net sound vectors run is_net_run moment m wire pending in
      let o = once-at (record { stage = moment.stage; delivered = moment.delivered ++ wire ∷ []; state = d.0 }) d.1 moment.stage refl wire in
      let a = occurrences-append wire moment.delivered (wire ∷ []) in
      let t = test_same wire wire refl in
      let p = IsIn-occurrences wire moment.delivered i in absurd (omega arith)

  due-settles : (moment : Moment) (m : IsMoment net vectors moment) (stage : Stage) → moment.stage ≡ Some stage
      → ((wire : ℕ) → IsDueIn net run stage wire → IsIn wire moment.delivered) → IsSettled moment.state
  due-settles moment m stage e all wire = go (moment.state.pending wire) refl
    where
      go : (k : ℕ) → moment.state.pending wire ≡ k → k ≡ 0
      go zero z = refl
      go (suc k) z =
          let pending : moment.state.pending wire ≡ 0 → ⊥ = λ y. absurd (omega arith) in
          absurd (fresh moment m wire pending (all wire (pending-due moment m stage e wire pending)))

  kept-at : (moment : Moment) (m : IsMoment net vectors moment) (stage : Stage) → moment.stage ≡ Some stage → stage.phase ≡ Relax → IsSettled moment.state
      → moment.state.cell_states ≡ map (resting (next_state net (bits_in run stage.cycle))) net.cells
  kept-at moment m stage e relax settled =
      relax-ends net sound (latches_in stage.cycle) (bits_in vectors stage.cycle) (bits_in run stage.cycle)
      (rails-at net vectors run m.0 moment m.1 is_net_run stage e) moment.state moment.delivered
      (subst (λ phase. PhaseHolds net (latches_in stage.cycle) (bits_in vectors stage.cycle) phase moment.state moment.delivered) relax
      (holds-in net sound vectors run is_net_run m.0 moment m.1 stage e)) settled

pub follow_law : FollowLaw
follow_law net sound vectors run is_net_run = record {
  goes_on = λ moment m. goes-on net sound vectors run is_net_run moment m moment.stage refl;
  once = λ moment m. once-at net sound vectors run is_net_run moment m moment.stage refl;
  one_pending = λ moment m. waits-at net sound vectors run is_net_run moment m moment.stage refl;
  unopened = unopened-at net sound vectors run is_net_run;
  delivered_due = delivered-due net sound vectors run is_net_run;
  pending_due = pending-due net sound vectors run is_net_run;
  settled = settled-due net sound vectors run is_net_run;
  settles = due-settles net sound vectors run is_net_run;
  kept = kept-at net sound vectors run is_net_run;
}
