-- Runs go on to whole runs.
use Rattle.std.proofs.Common.{◌≡◌, ℕ, zero, suc, ◌+◌, ◌*◌, ◌≤◌, ◌<◌, inl, inr, Option, Some, None, List, [], ◌∷◌, ◌++◌, length, Bool, refl, sym, ◌∙◌, ap, subst, arith}
use Rattle.std.specs.Prelude.{slice_get}
use Rattle.std.proofs.lemmas.Bool.{cases_eq, cases_lt}
use Rattle.std.proofs.lemmas.Option.{slice_get_within}
use Rattle.cell_netlist.specs.declared.kinds.Phase.{Phase}
use Rattle.cell_netlist.specs.declared.kinds.Phase.TheVariants.{Excite, Relax}
use Rattle.cell_netlist.specs.Netlists.{PlainNetlist}
use Rattle.cell_netlist.specs.World.{IsSettled, opened}
use Rattle.cell_netlist.specs.Runs.{Stage, Moment, Event, Opens, Delivers, following, next_stage, beginning, IsRun, IsMoment, taken_within, stages_taken, IsWhole}
use Rattle.cell_netlist.specs.Sound.{IsSound}
use Rattle.cell_netlist.proofs.CallerLemmasOnRuns.{run_exists}
use Rattle.pulse_world.specs.DuePulses.{DeliversAll}
use Rattle.pulse_world.specs.LaterMoments.{LeadsOn, MomentsLeadOn, WholeRunExists, EveryRunGoesOn, NextPhaseOpens, WholeRunEnds}
use Rattle.pulse_world.proofs.RunMoments.{moves, vector-of}
use Rattle.pulse_world.proofs.DueWires.{follow_law}

-- one way after another
pub leads-joined : (net : PlainNetlist) (vectors : List (List Bool)) (events more : List Event) (first mid last : Moment) → LeadsOn net vectors events first mid
    → LeadsOn net vectors more mid last → LeadsOn net vectors (more ++ events) first last
leads-joined net vectors events [] first mid last h k = subst (LeadsOn net vectors events first) (sym k) h
leads-joined net vectors events (event ∷ more) first mid last h (before, k, step) = (before, leads-joined net vectors events more first mid before h k, step)

run-joined : (net : PlainNetlist) (vectors : List (List Bool)) (events its : List Event) (first last : Moment) → IsRun net vectors its first
    → LeadsOn net vectors events first last → IsRun net vectors (events ++ its) last
run-joined net vectors [] its first last run e = subst (IsRun net vectors its) (sym e) run
run-joined net vectors (event ∷ events) its first last run (before, leads, step) = (before, run-joined net vectors events its first before run leads, step)

pub moments_lead_on : MomentsLeadOn
moments_lead_on net vectors events first last reached leads = (events ++ reached.0, run-joined net vectors events reached.0 first last reached.1 leads)

-- deliveries as events
delivers-lead : (net : PlainNetlist) (vectors : List (List Bool)) (wires : List ℕ) (first last : Moment) → DeliversAll net wires first last
    → (events : List Event) × LeadsOn net vectors events first last
delivers-lead net vectors [] first last e = ([], e)
delivers-lead net vectors (wire ∷ wires) first last (mid, step, rest) =
    let r = delivers-lead net vectors wires mid last rest in
    (r.0 ++ Delivers wire ∷ [], leads-joined net vectors (Delivers wire ∷ []) r.0 first mid last (first, refl, step) r.1)

delivers-stage : (net : PlainNetlist) (wires : List ℕ) (first last : Moment) → DeliversAll net wires first last → last.stage ≡ first.stage
delivers-stage net [] first last e = ap (λ (m : Moment). m.stage) e
delivers-stage net (wire ∷ wires) first last (mid, step, rest) = delivers-stage net wires mid last rest ∙ step.stage

-- an item below the length
get-below : {X : Type 0} (xs : List X) (i : ℕ) → i < length xs → (x : X) × (slice_get xs i ≡ Some x)
get-below [] i lt = absurd (omega arith)
get-below (x ∷ xs) zero lt = (x, refl)
get-below (x ∷ xs) (suc i) lt = get-below xs i (omega arith)

-- the cycle of the next phase has a vector
following-low : (count cycle : ℕ) (phase : Phase) → cycle < count → (taken_within cycle phase ≡ 2 * count → ⊥) → (following cycle phase).cycle < count
following-low count cycle Excite low left = low
following-low count cycle Relax low left = elim (cases_lt (cycle + 1) count) [ inl lt ↦ lt | inr le ↦ absurd (left (omega arith)) ]

next-low : (count : ℕ) (stage : Option Stage) → ((s : Stage) → stage ≡ Some s → s.cycle < count) → (stages_taken stage ≡ 2 * count → ⊥) → (next_stage stage).cycle < count
next-low count None low left = elim (cases_lt 0 count) [ inl lt ↦ lt | inr le ↦ absurd (left (omega arith)) ]
next-low count (Some stage) low left = following-low count stage.cycle stage.phase (low stage refl) left

cycle-low : (net : PlainNetlist) (vectors : List (List Bool)) (moment : Moment) → IsMoment net vectors moment → (stage : Stage) → moment.stage ≡ Some stage
    → stage.cycle < length vectors
cycle-low net vectors moment m stage e =
    let v = vector-of net vectors m.0 moment m.1 stage e in slice_get_within vectors stage.cycle v.0 v.1

pub next_phase_opens : NextPhaseOpens
next_phase_opens net vectors moment m settled left =
    let v = get-below vectors (next_stage moment.stage).cycle (next-low (length vectors) moment.stage (cycle-low net vectors moment m) left) in (
      record { stage = Some (next_stage moment.stage); delivered = []; state = opened net (next_stage moment.stage).phase v.0 moment.state },
      record { settled = settled; vector = v.0; of_cycle = v.1; stage = refl; delivered = refl; state = refl },
    )

-- how many phases are taken
taken-most : (count : ℕ) (stage : Option Stage) → ((s : Stage) → stage ≡ Some s → s.cycle < count) → stages_taken stage ≤ 2 * count
taken-most count None low = omega arith
taken-most count (Some stage) low = within count stage.cycle stage.phase (low stage refl)
  where
    within : (count cycle : ℕ) (phase : Phase) → cycle < count → taken_within cycle phase ≤ 2 * count
    within count cycle Excite lt = omega arith
    within count cycle Relax lt = omega arith

taken-next : (stage : Option Stage) → stages_taken (Some (next_stage stage)) ≡ stages_taken stage + 1
taken-next None = omega arith
taken-next (Some stage) = within stage.cycle stage.phase
  where
    within : (cycle : ℕ) (phase : Phase) → taken_within (following cycle phase).cycle (following cycle phase).phase ≡ taken_within cycle phase + 1
    within cycle Excite = omega arith
    within cycle Relax = omega arith

module _ (net : PlainNetlist) (sound : IsSound net) (vectors : List (List Bool)) where
  abbrev GoesOnFrom : Moment → Type 0
  GoesOnFrom moment = (events : List Event) × (last : Moment) × LeadsOn net vectors events moment last × IsWhole vectors last

  -- from a settled moment one more phase, from which the run goes on
  from-settled : (moment : Moment) → IsMoment net vectors moment → IsSettled moment.state
      → ((after : Moment) → IsMoment net vectors after → stages_taken after.stage ≡ stages_taken moment.stage + 1 → GoesOnFrom after) → GoesOnFrom moment
  from-settled moment m settled rest = elim (cases_eq (stages_taken moment.stage) (2 * length vectors)) [
    | inl all ↦ ([], moment, refl, (settled, all))
    | inr some ↦
        let o = next_phase_opens net vectors moment m settled some in
        let step : LeadsOn net vectors (Opens ∷ []) moment o.0 = (moment, refl, o.1) in
        let r = rest o.0 (Opens ∷ m.0, (moment, m.1, o.1)) (ap stages_taken o.1.stage ∙ taken-next moment.stage) in
        (r.0 ++ Opens ∷ [], r.1, leads-joined net vectors (Opens ∷ []) r.0 moment o.0 r.1 step r.2, r.3)
  ]

  -- from a moment to a settled one, from which the run goes on
  to-settled : (moment : Moment) → IsMoment net vectors moment
      → ((later : Moment) → IsMoment net vectors later → IsSettled later.state → stages_taken later.stage ≡ stages_taken moment.stage → GoesOnFrom later)
      → GoesOnFrom moment
  to-settled moment m rest =
      let run = run_exists net sound vectors in
      let s = (follow_law net sound vectors run.0 run.1).goes_on moment m in
      let d = delivers-lead net vectors s.0 moment s.1 s.2 in
      let later = moments_lead_on net vectors d.0 moment s.1 m d.1 in
      let r = rest s.1 later s.3 (ap stages_taken (delivers-stage net s.0 moment s.1 s.2)) in
      (r.0 ++ d.0, r.1, leads-joined net vectors d.0 r.0 moment s.1 r.1 d.1 r.2, r.3)

  -- by how many phases are left
  to-whole : (left : ℕ) (moment : Moment) → IsMoment net vectors moment → 2 * length vectors ≤ stages_taken moment.stage + left → GoesOnFrom moment
  to-whole zero moment m enough =
      to-settled moment m (λ later reached settled same. from-settled later reached settled (λ after k next.
      let most = taken-most (length vectors) after.stage (cycle-low net vectors after k) in absurd (omega arith)))
  to-whole (suc left) moment m enough =
      to-settled moment m (λ later reached settled same. from-settled later reached settled (λ after k next. to-whole left after k (omega arith)))

pub every_run_goes_on : EveryRunGoesOn
every_run_goes_on net sound vectors moment m = to-whole net sound vectors (2 * length vectors) moment m (omega arith)

pub whole_run_exists : WholeRunExists
whole_run_exists net sound vectors =
    let start : IsMoment net vectors (beginning net) = ([], refl) in
    let r = every_run_goes_on net sound vectors (beginning net) start in
    (r.1, moments_lead_on net vectors r.0 (beginning net) r.1 start r.2, r.3)

-- no vector is left for a phase after all are taken
none-left : (vectors : List (List Bool)) (stage : Option Stage) (vector : List Bool) → stages_taken stage ≡ 2 * length vectors
    → slice_get vectors (next_stage stage).cycle ≡ Some vector → ⊥
none-left vectors None vector all e = let low = slice_get_within vectors 0 vector e in absurd (omega arith)
none-left vectors (Some stage) vector all e = within stage.cycle stage.phase all e
  where
    within : (cycle : ℕ) (phase : Phase) → taken_within cycle phase ≡ 2 * length vectors → slice_get vectors (following cycle phase).cycle ≡ Some vector → ⊥
    within cycle Excite all e = absurd (omega arith)
    within cycle Relax all e = let low = slice_get_within vectors (cycle + 1) vector e in absurd (omega arith)

pub whole_run_ends : WholeRunEnds
whole_run_ends net vectors moment whole Opens after opens = none-left vectors moment.stage opens.vector whole.1 opens.of_cycle
whole_run_ends net vectors moment whole (Delivers wire) after delivers =
    let m = moves net moment.state wire after.state delivers.state in let z = whole.0 wire in let p = m.pending in absurd (omega arith)
