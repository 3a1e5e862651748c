-- A whole run passes through the cycle of each vector, and the law of every order in full.
use Rattle.std.proofs.Common.{◌≡◌, ℕ, zero, suc, ◌+◌, ◌-◌, ◌*◌, ◌<◌, Option, Some, None, List, [], ◌∷◌, ◌++◌, length, Bool, refl, sym, ◌∙◌, ap, subst, arith}
use Rattle.std.proofs.lemmas.List.{append_assoc}
use Rattle.cell_netlist.specs.declared.kinds.Phase.{Phase}
use Rattle.cell_netlist.specs.declared.kinds.Phase.TheVariants.{Excite, Relax}
use Rattle.cell_netlist.specs.Netlists.{PlainNetlist}
use Rattle.cell_netlist.specs.World.{IsSettled}
use Rattle.cell_netlist.specs.Runs.{Stage, Moment, Event, Opens, Delivers, following, next_stage, IsRun, taken_within, stages_taken}
use Rattle.cell_netlist.proofs.CallerLemmasOnRuns.{run_exists}
use Rattle.pulse_world.specs.LaterMoments.{LeadsOn}
use Rattle.pulse_world.specs.PulsesPerCycle.{PassesCycle, WholeRunsHaveCycles}
use Rattle.pulse_world.specs.RailPulses.{RailLaw}
use Rattle.pulse_world.proofs.MomentInvariant.{order_law}
use Rattle.pulse_world.proofs.DueWires.{follow_law}
use Rattle.pulse_world.proofs.PulsesPerCycle.{once_per_cycle, link_per_cycle, outputs_read_no_link, gates_read_no_link}
use Rattle.pulse_world.proofs.WholeRuns.{leads-joined, every_run_goes_on, whole_run_exists}

-- where a phase was opened in a run: the settled moment before, and the events since then
record Opened (net : PlainNetlist) (vectors : List (List Bool)) (events : List Event) (last : Moment) (stage : Stage) : Type 0 where
  pub before : Moment
  pub earlier : List Event
  pub run : IsRun net vectors earlier before
  pub settled : IsSettled before.state
  pub next : next_stage before.stage ≡ stage
  pub since : List Event
  pub leads : LeadsOn net vectors since before last
  pub parts : events ≡ since ++ earlier

some-is : {X : Type 0} (x y : X) → Some x ≡ Some y → x ≡ y
some-is x y e = cc

opened-in : (net : PlainNetlist) (vectors : List (List Bool)) (events : List Event) (last : Moment) → IsRun net vectors events last
    → (stage : Stage) → last.stage ≡ Some stage → Opened net vectors events last stage
opened-in net vectors [] last run stage e = let none = ap (λ (m : Moment). m.stage) run in absurd cc
opened-in net vectors (Opens ∷ earlier) last (before, run, opens) stage e = record {
  before = before;
  earlier = earlier;
  run = run;
  settled = opens.settled;
  next = some-is (next_stage before.stage) stage (sym opens.stage ∙ e);
  since = Opens ∷ [];
  leads = (before, refl, opens);
  parts = refl;
}
opened-in net vectors (Delivers wire ∷ earlier) last (before, run, delivers) stage e =
    let o = opened-in net vectors earlier before run stage (sym delivers.stage ∙ e) in
    record {
      before = o.before;
      earlier = o.earlier;
      run = o.run;
      settled = o.settled;
      next = o.next;
      since = Delivers wire ∷ o.since;
      leads = (before, o.leads, delivers);
      parts = ap (λ events. Delivers wire ∷ events) o.parts;
    }

abbrev excite_of : ℕ → Stage
excite_of cycle = record { cycle = cycle; phase = Excite }

abbrev relax_of : ℕ → Stage
relax_of cycle = record { cycle = cycle; phase = Relax }

-- the phase before relax is the cycle's excite
before-relax : (stage : Option Stage) (cycle : ℕ) → next_stage stage ≡ relax_of cycle → stage ≡ Some (excite_of cycle)
before-relax None cycle e = let p = ap (λ (s : Stage). s.phase) e in absurd cc
before-relax (Some stage) cycle e = within stage.cycle stage.phase e
  where
    within : (its : ℕ) (phase : Phase) → following its phase ≡ relax_of cycle → Some (record { cycle = its; phase = phase }) ≡ Some (excite_of cycle)
    within its Excite e = let c = ap (λ (s : Stage). s.cycle) e in ap (λ k. Some (excite_of k)) c
    within its Relax e = let p = ap (λ (s : Stage). s.phase) e in absurd cc

-- and before the excite of a later cycle it is the relax of the cycle before
before-excite : (stage : Option Stage) (cycle : ℕ) → next_stage stage ≡ excite_of (suc cycle) → stage ≡ Some (relax_of cycle)
before-excite None cycle e = let c : 0 ≡ suc cycle = ap (λ (s : Stage). s.cycle) e in absurd (omega arith)
before-excite (Some stage) cycle e = within stage.cycle stage.phase e
  where
    within : (its : ℕ) (phase : Phase) → following its phase ≡ excite_of (suc cycle) → Some (record { cycle = its; phase = phase }) ≡ Some (relax_of cycle)
    within its Excite e = let p = ap (λ (s : Stage). s.phase) e in absurd cc
    within its Relax e =
        let c : its + 1 ≡ suc cycle = ap (λ (s : Stage). s.cycle) e in
        let same : its ≡ cycle = omega arith in ap (λ k. Some (relax_of k)) same

module _ (net : PlainNetlist) (vectors : List (List Bool)) where
  -- a run whose relax is settled passes through that cycle
  this-cycle : (cycle : ℕ) (events : List Event) (last : Moment) → IsRun net vectors events last → last.stage ≡ Some (relax_of cycle) → IsSettled last.state
      → PassesCycle net vectors events last cycle
  this-cycle cycle events last run e settled =
      let o = opened-in net vectors events last run (relax_of cycle) e in
      record {
        excited = o.before;
        relaxed = last;
        is_cycle = record {
          reached = (o.earlier, o.run);
          excite = before-relax o.before.stage cycle o.next;
          excite_settled = o.settled;
          events = o.since;
          leads = o.leads;
          relax = e;
          relax_settled = settled;
        };
        earlier = o.earlier;
        begins = o.run;
        later = [];
        ends = refl;
        parts = o.parts;
      }

  -- and through each earlier one
  earlier-cycle : (cycle more number : ℕ) → number ≡ more + cycle → (events : List Event) (last : Moment) → IsRun net vectors events last
      → last.stage ≡ Some (relax_of number) → IsSettled last.state → PassesCycle net vectors events last cycle
  earlier-cycle cycle zero number sum events last run e settled =
      let same : number ≡ cycle = omega arith in
      this-cycle cycle events last run (subst (λ k. last.stage ≡ Some (relax_of k)) same e) settled
  earlier-cycle cycle (suc more) number sum events last run e settled =
      let same : number ≡ suc (more + cycle) = omega arith in
      let o = opened-in net vectors events last run (relax_of (suc (more + cycle))) (subst (λ k. last.stage ≡ Some (relax_of k)) same e) in
      let excite = before-relax o.before.stage (suc (more + cycle)) o.next in
      let p = opened-in net vectors o.earlier o.before o.run (excite_of (suc (more + cycle))) excite in
      let passed = earlier-cycle cycle more (more + cycle) refl p.earlier p.before p.run (before-excite p.before.stage (more + cycle) p.next) p.settled in
      let since : LeadsOn net vectors (o.since ++ p.since) p.before last = leads-joined net vectors p.since o.since p.before o.before last p.leads o.leads in
      record {
        excited = passed.excited;
        relaxed = passed.relaxed;
        is_cycle = passed.is_cycle;
        earlier = passed.earlier;
        begins = passed.begins;
        later = (o.since ++ p.since) ++ passed.later;
        ends = leads-joined net vectors passed.later (o.since ++ p.since) passed.relaxed p.before last passed.ends since;
        parts = o.parts ∙ ap (λ events. o.since ++ events) (p.parts ∙ ap (λ events. p.since ++ events) passed.parts)
            ∙ sym (append_assoc o.since p.since (passed.later ++ (passed.is_cycle.events ++ passed.earlier)))
            ∙ sym (append_assoc (o.since ++ p.since) passed.later (passed.is_cycle.events ++ passed.earlier));
      }

-- the last phase of a whole run is a relax
last-relax : (count : ℕ) (stage : Option Stage) → stages_taken stage ≡ 2 * count → 0 < count → (last : ℕ) × (stage ≡ Some (relax_of last)) × (last + 1 ≡ count)
last-relax count None e some = absurd (omega arith)
last-relax count (Some stage) e some = within stage.cycle stage.phase e
  where
    within : (cycle : ℕ) (phase : Phase) → taken_within cycle phase ≡ 2 * count
        → (last : ℕ) × (Some (record { cycle = cycle; phase = phase }) ≡ Some (relax_of last)) × (last + 1 ≡ count)
    within cycle Excite e = absurd (omega arith)
    within cycle Relax e = (cycle, refl, omega arith)

pub whole_runs_have_cycles : WholeRunsHaveCycles
whole_runs_have_cycles net vectors events last run whole cycle low =
    let l = last-relax (length vectors) last.stage whole.1 (omega arith) in
    let sum : l.0 ≡ (l.0 - cycle) + cycle = omega (arith, l.2) in
    earlier-cycle net vectors cycle (l.0 - cycle) l.0 sum events last run l.1 whole.0

pub rail_law : RailLaw
rail_law net sound = record {
  some_run = run_exists net sound;
  as_run = λ vectors run is_net_run. record {
    delivers = order_law net sound vectors run is_net_run;
    follows = follow_law net sound vectors run is_net_run;
    once = once_per_cycle net sound vectors;
    link = link_per_cycle net sound vectors run is_net_run;
  };
  outputs = outputs_read_no_link net sound;
  gates = gates_read_no_link net sound;
  some_whole = whole_run_exists net sound;
  goes_on = every_run_goes_on net sound;
  cycles = whole_runs_have_cycles net;
}
