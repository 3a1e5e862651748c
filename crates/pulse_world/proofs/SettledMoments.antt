-- Every moment goes on to a settled one.
use Rattle.std.proofs.Common.{◌≡◌, ℕ, zero, suc, ◌+◌, ◌≤◌, ◌<◌, ◌⊎◌, inl, inr, Option, Some, None, List, [], ◌∷◌, ◌++◌, length, Bool, refl, subst, arith, length-append}
use Rattle.pulse_ids.specs.Lists.{occurrences}
use Rattle.cell_netlist.specs.Netlists.{PlainNetlist, number_of_wires}
use Rattle.cell_netlist.specs.World.{State, IsSettled}
use Rattle.cell_netlist.specs.Runs.{Stage, Moment, Delivers, IsMoment}
use Rattle.cell_netlist.specs.RailEquations.{LatchState, IsNetRun, first_state}
use Rattle.cell_netlist.specs.Sound.{IsSound}
use Rattle.cell_netlist.specs.NetRuns.{bits_in, latches_from}
use Rattle.pulse_ids.proofs.CallerLemmasOnCounts.{occurrences-append}
use Rattle.std.proofs.lemmas.Bool.{cases_lt}
use Rattle.pulse_world.specs.Delivery.{DeliversRails}
use Rattle.pulse_world.specs.DuePulses.{DeliversAll}
use Rattle.pulse_world.proofs.MomentInvariant.{StageHolds, holds-at, phase-low, holds-in, order_law}

-- a wire that is pending below a number, or none is
some-pending : (pending : ℕ → ℕ) (n : ℕ) → ((wire : ℕ) × (pending wire ≡ 0 → ⊥)) ⊎ ((wire : ℕ) → wire < n → pending wire ≡ 0)
some-pending pending zero = inr (λ wire lt. absurd (omega arith))
some-pending pending (suc n) = elim (some-pending pending n) [
  | inl found ↦ inl found
  | inr none ↦ go (pending n) refl none
]
  where
    go : (k : ℕ) → pending n ≡ k → ((wire : ℕ) → wire < n → pending wire ≡ 0) → ((wire : ℕ) × (pending wire ≡ 0 → ⊥)) ⊎ ((wire : ℕ) → wire < suc n → pending wire ≡ 0)
    go (suc k) e none = inl (n, λ z. absurd (omega arith))
    go zero e none = inr (λ wire lt. elim (cases_lt wire n) [
      | inl low ↦ none wire low
      | inr le ↦ let same : n ≡ wire = omega arith in subst (λ w. pending w ≡ 0) same e
    ])

-- a settled moment later in the same phase
pub record Settled (net : PlainNetlist) (vectors : List (List Bool)) (moment : Moment) : Type 0 where
  pub wires : List ℕ
  pub later : Moment
  pub leads : DeliversAll net wires moment later
  pub reached : IsMoment net vectors later
  pub stage : later.stage ≡ moment.stage
  pub settled : IsSettled later.state
  pub goes_on : (wire : ℕ) → occurrences wire moment.delivered ≤ occurrences wire later.delivered

module _ (net : PlainNetlist) (sound : IsSound net) (vectors run : List (List Bool)) (is_net_run : IsNetRun net vectors run) where
  laws : DeliversRails net vectors run
  laws = order_law net sound vectors run is_net_run

  abbrev pub latches_in : ℕ → LatchState
  latches_in cycle = latches_from net (first_state net) run cycle

  -- the moment after a delivery
  pub after-one : (moment : Moment) → IsMoment net vectors moment → (wire : ℕ) → (moment.state.pending wire ≡ 0 → ⊥)
      → (after : State) × IsMoment net vectors (record { stage = moment.stage; delivered = moment.delivered ++ wire ∷ []; state = after })
  after-one moment m wire pending =
      let d = laws.live moment m wire pending in
      (d.0, (Delivers wire ∷ m.0, (moment, m.1, record { stage = refl; delivered = refl; state = d.1 })))

  pub low-at : (moment : Moment) (m : IsMoment net vectors moment) (stage : Stage) → moment.stage ≡ Some stage → (wire : ℕ) → number_of_wires net ≤ wire
      → (moment.state.pending wire ≡ 0) × (occurrences wire moment.delivered ≡ 0)
  low-at moment m stage e wire le =
      phase-low net sound (latches_in stage.cycle) (bits_in vectors stage.cycle) stage.phase moment.state moment.delivered (holds-in net sound vectors run is_net_run m.0 moment m.1 stage e) wire le

  here : (moment : Moment) → IsMoment net vectors moment → (stage : Stage) → moment.stage ≡ Some stage → ((wire : ℕ) → wire < number_of_wires net → moment.state.pending wire ≡ 0)
      → Settled net vectors moment
  here moment m stage e none = record {
    wires = [];
    later = moment;
    leads = refl;
    reached = m;
    stage = refl;
    settled = λ wire. elim (cases_lt wire (number_of_wires net)) [
      | inl lt ↦ none wire lt
      | inr le ↦ (low-at moment m stage e wire le).0
    ];
    goes_on = λ wire. omega arith;
  }

  -- by how many deliveries are left
  go-on : (fuel : ℕ) (moment : Moment) → IsMoment net vectors moment → (stage : Stage) → moment.stage ≡ Some stage → number_of_wires net ≤ length moment.delivered + fuel
      → Settled net vectors moment
  unfolding after-one
  go-on zero moment m stage e enough = elim (some-pending moment.state.pending (number_of_wires net)) [
    | inr none ↦ here moment m stage e none
    | inl found ↦
        let d = after-one moment m found.0 found.1 in
        let f = laws.few (record { stage = moment.stage; delivered = moment.delivered ++ found.0 ∷ []; state = d.0 }) d.1 in
        let l = length-append moment.delivered (found.0 ∷ []) in absurd (omega arith)
  ]
  go-on (suc fuel) moment m stage e enough = elim (some-pending moment.state.pending (number_of_wires net)) [
    | inr none ↦ here moment m stage e none
    | inl found ↦
        let d = after-one moment m found.0 found.1 in
        let l = length-append moment.delivered (found.0 ∷ []) in
        let s = go-on fuel (record { stage = moment.stage; delivered = moment.delivered ++ found.0 ∷ []; state = d.0 }) d.1 stage e (omega arith) in
        record {
          wires = found.0 ∷ s.wires;
          later = s.later;
          leads = (record { stage = moment.stage; delivered = moment.delivered ++ found.0 ∷ []; state = d.0 }, d.1.1.2, s.leads);
          reached = s.reached;
          stage = s.stage;
          settled = s.settled;
          goes_on = λ wire. let a = occurrences-append wire moment.delivered (found.0 ∷ []) in let g = s.goes_on wire in omega arith;
        }
  ]

  pub goes-on-at : (moment : Moment) → IsMoment net vectors moment → (stage : Stage) → moment.stage ≡ Some stage → Settled net vectors moment
  goes-on-at moment m stage e = go-on (number_of_wires net) moment m stage e (omega arith)

  pub goes-on : (moment : Moment) (m : IsMoment net vectors moment) (stage : Option Stage) → moment.stage ≡ stage
      → (wires : List ℕ) × (later : Moment) × DeliversAll net wires moment later × IsSettled later.state
  goes-on moment m None e =
      let h = subst (λ stage. StageHolds net vectors run stage moment.state moment.delivered) e (holds-at net sound vectors run is_net_run m.0 moment m.1) in
      ([], moment, refl, h.pending)
  goes-on moment m (Some stage) e = let s = goes-on-at moment m stage e in (s.wires, s.later, s.leads, s.settled)
