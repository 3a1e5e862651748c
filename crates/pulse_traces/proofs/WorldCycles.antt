-- The cycles of a simulation are cycles of the world's definition.
use Rattle.std.proofs.Common.{◌≡◌, ◌+◌, ℕ, zero, suc, Bool, Option, Some, List, [], ◌∷◌, ◌++◌, map, length, slice_get, ap, sym, ◌∙◌, subst, arith, refl, append_assoc, append-nil}
use Rattle.pulse_ids.specs.Lists.{occurrences}
use Rattle.cell_netlist.specs.declared.kinds.Phase.TheVariants.{Excite, Relax}
use Rattle.cell_netlist.specs.Netlists.{PlainNetlist}
use Rattle.cell_netlist.specs.World.{State, opened, Delivered, deliver}
use Rattle.cell_netlist.specs.Runs.{Stage, Moment, Event, Opens, Delivers, next_stage, OpensPhase, DeliversPulse, beginning, IsMoment}
use Rattle.pulse_world.specs.LaterMoments.{LeadsOn, MomentsLeadOn}
use Rattle.pulse_world.specs.Worlds.{PlainWorld, state_of, opened_world}
use Rattle.pulse_world.proofs.CallerLemmas.{counts_are, leads_joined}
use Rattle.schedule_replay.specs.Settling.{DeliversInTurn}
use Rattle.schedule_replay.specs.Orders.{Cycle, vector_of, MakesCycle, MakesCycles}
use Rattle.pulse_traces.specs.EveryOrder.{IsCycleOf, SimulatedInWorld, ReplayedInWorld}
use Rattle.pulse_traces.specs.Simulations.{IsStart}

-- the moment at which a world stands
abbrev pub moment_of : Option Stage → List ℕ → PlainWorld → Moment
moment_of stage taken world = record { stage = stage; delivered = taken; state = state_of world }

abbrev pub excite_of : ℕ → Stage
excite_of cycle = record { cycle = cycle; phase = Excite }

abbrev pub relax_of : ℕ → Stage
relax_of cycle = record { cycle = cycle; phase = Relax }

turns-net : (names : ℕ → ℕ → ℕ → Type 0) (step : ℕ) (wires : List ℕ) (before after : PlainWorld) → DeliversInTurn names step before wires after → after.net ≡ before.net
turns-net names step [] before after h = ap (λ (w : PlainWorld). w.net) h
turns-net names step (wire ∷ wires) before after (mid, one, rest) = turns-net names (step + 1) wires mid after rest ∙ one.delivers.net

module _ (lead_on : MomentsLeadOn) (net : PlainNetlist) (vectors : List (List Bool)) where
  -- deliveries in turn are deliveries of the run
  turns-lead : (names : ℕ → ℕ → ℕ → Type 0) (step : ℕ) (wires : List ℕ) (before after : PlainWorld) (stage : Option Stage) (taken : List ℕ) → before.net ≡ net
      → DeliversInTurn names step before wires after
      → (events : List Event) × LeadsOn net vectors events (moment_of stage taken before) (moment_of stage (taken ++ wires) after)
  turns-lead names step [] before after stage taken e h =
      ([], ap (λ (w : PlainWorld). moment_of stage (taken ++ []) w) h ∙ ap (λ ws. moment_of stage ws before) (append-nil taken))
  turns-lead names step (wire ∷ wires) before after stage taken e (mid, one, rest) =
      let d = one.delivers in
      let pulse : DeliversPulse net wire (moment_of stage taken before) (moment_of stage (taken ++ wire ∷ []) mid) =
      record { stage = refl; delivered = refl; state = subst (λ n. deliver n (state_of before) wire ≡ Delivered (state_of mid)) e d.delivered } in
      let r = turns-lead names (step + 1) wires mid after stage (taken ++ wire ∷ []) (d.net ∙ e) rest in
      let joined = leads_joined net vectors (Delivers wire ∷ []) r.0 (moment_of stage taken before) (moment_of stage (taken ++ wire ∷ []) mid)
      (moment_of stage ((taken ++ wire ∷ []) ++ wires) after) (moment_of stage taken before, refl, pulse) r.1 in (
        r.0 ++ Delivers wire ∷ [],
        subst (λ ws. LeadsOn net vectors (r.0 ++ Delivers wire ∷ []) (moment_of stage taken before) (moment_of stage ws after)) (append_assoc taken (wire ∷ []) wires) joined,
      )

  -- the opening of a world's phase is that of the run
  opens : (stage : Stage) (vector : List Bool) (moment : Moment) (world : PlainWorld) → world.net ≡ net → moment.state ≡ state_of world → world.queue ≡ []
      → next_stage moment.stage ≡ stage → slice_get vectors stage.cycle ≡ Some vector
      → OpensPhase net vectors moment (moment_of (Some stage) [] (opened_world stage.phase vector world))
  opens stage vector moment world e s q next v = record {
    settled = λ wire. ap (λ (st : State). st.pending wire) s ∙ ap (occurrences wire) q;
    vector = vector;
    of_cycle = subst (λ (g : Stage). slice_get vectors g.cycle ≡ Some vector) (sym next) v;
    stage = ap (λ (g : Stage). Some g) (sym next);
    delivered = refl;
    state = ap (λ n. opened n stage.phase vector (state_of world)) e
        ∙ (ap (λ (st : State). opened net stage.phase vector st) (sym s) ∙ ap (λ (g : Stage). opened net g.phase vector moment.state) (sym next));
  }

  -- a cycle that was made
  record MadeFrom (cycle : Cycle) (k : ℕ) (after : PlainWorld) : Type 0 where
    pub is : IsCycleOf net vectors k cycle
    pub ends : IsMoment net vectors (moment_of (Some (relax_of k)) cycle.relax after)
    pub net_is : after.net ≡ net

  made-one : (names : ℕ → ℕ → ℕ → Type 0) (step : ℕ) (before : PlainWorld) (cycle : Cycle) (after : PlainWorld) (k : ℕ) (moment : Moment)
      → MakesCycle names step before cycle after → before.net ≡ net → before.queue ≡ [] → IsMoment net vectors moment → moment.state ≡ state_of before
      → next_stage moment.stage ≡ excite_of k → slice_get vectors k ≡ Some cycle.vector → MadeFrom cycle k after
  made-one names step before cycle after k moment made e q m s next v =
      let o1 = opens (excite_of k) cycle.vector moment before e s q next v in
      let w1 = opened_world Excite cycle.vector before in
      let t1 = turns-lead names step cycle.excite w1 made.middle (Some (excite_of k)) [] e made.excites in
      let excited = moment_of (Some (excite_of k)) cycle.excite made.middle in
      let opened1 : IsMoment net vectors (moment_of (Some (excite_of k)) [] w1) = (Opens ∷ m.0, (moment, m.1, o1)) in
      let reached : IsMoment net vectors excited = lead_on net vectors t1.0 (moment_of (Some (excite_of k)) [] w1) excited opened1 t1.1 in
      let net1 : made.middle.net ≡ net = turns-net names step cycle.excite w1 made.middle made.excites ∙ e in
      let o2 = opens (relax_of k) cycle.vector excited made.middle net1 refl made.rests refl v in
      let w2 = opened_world Relax cycle.vector made.middle in
      let t2 = turns-lead names (step + length cycle.excite) cycle.relax w2 after (Some (relax_of k)) [] net1 made.relaxes in
      let relaxed = moment_of (Some (relax_of k)) cycle.relax after in
      let opened2 = moment_of (Some (relax_of k)) [] w2 in
      let leads = leads_joined net vectors (Opens ∷ []) t2.0 excited opened2 relaxed (excited, refl, o2) t2.1 in
      let ends : IsMoment net vectors relaxed = lead_on net vectors (t2.0 ++ Opens ∷ []) excited relaxed reached leads in
      record {
        is = record {
          excited = excited;
          relaxed = relaxed;
          is_cycle = record {
            reached = reached;
            excite = refl;
            excite_settled = λ wire. ap (occurrences wire) made.rests;
            events = t2.0 ++ Opens ∷ [];
            leads = leads;
            relax = refl;
            relax_settled = λ wire. ap (occurrences wire) made.settled;
          };
          excites = refl;
          relaxes = refl;
          excite_counts = counts_are net vectors reached.0 excited reached.1;
          relax_counts = counts_are net vectors ends.0 relaxed ends.1;
        };
        ends = ends;
        net_is = turns-net names (step + length cycle.excite) cycle.relax w2 after made.relaxes ∙ net1;
      }

  -- the cycles of a list, numbered from one on
  pub made-all : (names : ℕ → ℕ → ℕ → Type 0) (step : ℕ) (before : PlainWorld) (cycles : List Cycle) (after : PlainWorld) (k : ℕ) (moment : Moment)
      → MakesCycles names step before cycles after → before.net ≡ net → before.queue ≡ [] → IsMoment net vectors moment → moment.state ≡ state_of before
      → next_stage moment.stage ≡ excite_of k → ((i : ℕ) (c : Cycle) → slice_get cycles i ≡ Some c → slice_get vectors (k + i) ≡ Some c.vector)
      → (number : ℕ) (cycle : Cycle) → slice_get cycles number ≡ Some cycle → IsCycleOf net vectors (k + number) cycle
  made-all names step before [] after k moment made e q m s next v number cycle at = absurd cc
  made-all names step before (c ∷ cycles) after k moment (mid, made, rest) e q m s next v zero cycle at =
      let first : k + 0 ≡ k = omega arith in
      let one = made-one names step before c mid k moment made e q m s next (subst (λ n. slice_get vectors n ≡ Some c.vector) first (v 0 c refl)) in
      let same : c ≡ cycle = cc in
      subst (λ n. IsCycleOf net vectors n cycle) (sym first) (subst (λ (x : Cycle). IsCycleOf net vectors k x) same one.is)
  made-all names step before (c ∷ cycles) after k moment (mid, made, rest) e q m s next v (suc number) cycle at =
      let first : k + 0 ≡ k = omega arith in
      let one = made-one names step before c mid k moment made e q m s next (subst (λ n. slice_get vectors n ≡ Some c.vector) first (v 0 c refl)) in
      let sum : (k + 1) + number ≡ k + suc number = omega arith in
      subst (λ n. IsCycleOf net vectors n cycle) sum
      (made-all names (step + length c.excite + length c.relax) mid cycles after (k + 1) (moment_of (Some (relax_of k)) c.relax mid) rest one.net_is made.settled
      one.ends refl refl (λ i x f. let more : k + suc i ≡ (k + 1) + i = omega arith in subst (λ n. slice_get vectors n ≡ Some x.vector) more (v (suc i) x f)) number cycle at)

  -- from the start of a netlist
  pub made-start : (names : ℕ → ℕ → ℕ → Type 0) (first : PlainWorld) (cycles : List Cycle) (last : PlainWorld) → IsStart net first
      → MakesCycles names 0 first cycles last → ((i : ℕ) (c : Cycle) → slice_get cycles i ≡ Some c → slice_get vectors i ≡ Some c.vector)
      → (number : ℕ) (cycle : Cycle) → slice_get cycles number ≡ Some cycle → IsCycleOf net vectors number cycle
  made-start names first cycles last start made v number cycle at =
      let z : 0 + number ≡ number = omega arith in
      subst (λ n. IsCycleOf net vectors n cycle) z
      (made-all names 0 first cycles last 0 (beginning net) made start.net_is start.settled ([], refl) (sym start.starts) refl
      (λ i c f. let y : i ≡ 0 + i = omega arith in subst (λ n. slice_get vectors n ≡ Some c.vector) y (v i c f)) number cycle at)

get-map : (cycles : List Cycle) (i : ℕ) (c : Cycle) → slice_get cycles i ≡ Some c → slice_get (map vector_of cycles) i ≡ Some c.vector
get-map [] i c e = absurd cc
get-map (x ∷ cycles) zero c e = let same : x ≡ c = cc in ap (λ (y : Cycle). Some y.vector) same
get-map (x ∷ cycles) (suc i) c e = get-map cycles i c e

get-front : (cycles more : List Cycle) (i : ℕ) (c : Cycle) → slice_get cycles i ≡ Some c → slice_get (cycles ++ more) i ≡ Some c
get-front [] more i c e = absurd cc
get-front (x ∷ cycles) more zero c e = e
get-front (x ∷ cycles) more (suc i) c e = get-front cycles more i c e

pub simulated_in_world : MomentsLeadOn → SimulatedInWorld
simulated_in_world lead_on order net vectors cycles simulated number cycle at =
    made-start lead_on net vectors _ simulated.first cycles simulated.last simulated.starts simulated.made
    (λ i c f. subst (λ vs. slice_get vs i ≡ Some c.vector) simulated.of_vectors (get-map cycles i c f)) number cycle at

pub replayed_in_world : MomentsLeadOn → ReplayedInWorld
replayed_in_world lead_on net asked made fault replayed number cycle at =
    made-start lead_on net (map vector_of asked) _ replayed.first made replayed.up_to.last replayed.starts replayed.up_to.makes
    (λ i c f. get-map asked i c (subst (λ (cs : List Cycle). slice_get cs i ≡ Some c) (sym replayed.up_to.parts) (get-front made replayed.up_to.left i c f))) number cycle at
