-- What is true of each state that some run reaches, and which states runs go on to.
use Rattle.std.proofs.Common.{◌≡◌, ◌+◌, ◌≤◌, ℕ, zero, suc, Bool, Option, Some, None, List, [], ◌∷◌, ◌++◌, length, slice_get, option_map, ap, sym, ◌∙◌, subst, arith, refl}
use Rattle.std.proofs.lemmas.List.{length-append}
use Rattle.cell_netlist.specs.declared.kinds.Phase.{Phase}
use Rattle.cell_netlist.specs.declared.kinds.Phase.TheVariants.{Excite, Relax}
use Rattle.cell_netlist.specs.Netlists.{PlainNetlist, number_of_wires}
use Rattle.cell_netlist.specs.World.{State, start, IsSettled, opened, Delivered, deliver}
use Rattle.cell_netlist.specs.Runs.{Stage, Moment, Event, Opens, Delivers, OpensPhase, DeliversPulse, next_stage, beginning, IsRun}
use Rattle.pulse_ids.specs.Lists.{occurrences}
use Rattle.cell_netlist.specs.Sound.{IsSound}
use Rattle.cell_netlist.proofs.CallerLemmasOnRuns.{run_exists}
use Rattle.pulse_world.specs.Worlds.{state_of, phase_of, phase_in, StandsAt, IsReached}
use Rattle.pulse_world.specs.WorldMoments.{StartIsBeginning, ExciteIsOpened, RelaxIsOpened, PlaceIsDelivered}
use Rattle.pulse_world.proofs.MomentInvariant.{order_law, StageHolds, holds-at, phase-waits, phase-low}

-- an item of a list is one of a longer list
get-left : {X : Type 0} (xs ys : List X) (i : ℕ) (x : X) → slice_get xs i ≡ Some x → slice_get (xs ++ ys) i ≡ Some x
get-left [] ys zero x e = absurd cc
get-left [] ys (suc i) x e = absurd cc
get-left (y ∷ xs) ys zero x e = e
get-left (y ∷ xs) ys (suc i) x e = get-left xs ys i x e

get-last : {X : Type 0} (xs : List X) (x : X) → slice_get (xs ++ x ∷ []) (length xs) ≡ Some x
get-last [] x = refl
get-last (y ∷ xs) x = get-last xs x

module _ (net : PlainNetlist) where
  -- a run on vectors is a run on more vectors
  more-vectors : (vectors more : List (List Bool)) (events : List Event) (moment : Moment) → IsRun net vectors events moment → IsRun net (vectors ++ more) events moment
  more-vectors vectors more [] moment run = run
  more-vectors vectors more (Opens ∷ events) moment (before, run, opens) = (
    before,
    more-vectors vectors more events before run,
    record {
      settled = opens.settled;
      vector = opens.vector;
      of_cycle = get-left vectors more (next_stage before.stage).cycle opens.vector opens.of_cycle;
      stage = opens.stage;
      delivered = opens.delivered;
      state = opens.state;
    },
  )
  more-vectors vectors more (Delivers wire ∷ events) moment (before, run, delivers) = (before, more-vectors vectors more events before run, delivers)

module _ (net : PlainNetlist) (opened_now : Option Phase) (vector : List Bool) (state : State) (vectors : List (List Bool)) (moment : Moment)
    (here : StandsAt net opened_now vector state vectors moment) where
  -- a delivery leads on
  delivery-from : (wire : ℕ) (after : State) → deliver net state wire ≡ Delivered after
      → (next : Moment) × DeliversPulse net wire moment next × StandsAt net opened_now vector after vectors next
  delivery-from wire after e =
      let next : Moment = record { stage = moment.stage; delivered = moment.delivered ++ wire ∷ []; state = after } in
      let leads : DeliversPulse net wire moment next = record {
        stage = refl;
        delivered = refl;
        state = subst (λ s. deliver net s wire ≡ Delivered after) (sym here.state_is) e;
      } in (
        next,
        leads,
        record {
          reached = (Delivers wire ∷ here.reached.0, (moment, here.reached.1, leads));
          state_is = refl;
          opened_is = here.opened_is;
          begun = here.begun;
          last = here.last;
        },
      )

  -- the opening of excite leads on
  abbrev ExciteFrom : List Bool → Type 0
  ExciteFrom inputs =
      (next : Moment) × OpensPhase net (vectors ++ inputs ∷ []) moment next
      × StandsAt net (Some Excite) inputs (opened net Excite inputs state) (vectors ++ inputs ∷ []) next

  excite-at : (inputs : List Bool) → IsSettled state → (cycle : ℕ) → next_stage moment.stage ≡ record { cycle = cycle; phase = Excite }
      → length vectors ≡ cycle → ExciteFrom inputs
  excite-at inputs settled cycle next_is count =
      let at_end : slice_get (vectors ++ inputs ∷ []) cycle ≡ Some inputs =
      subst (λ k. slice_get (vectors ++ inputs ∷ []) k ≡ Some inputs) count (get-last vectors inputs) in
      let next : Moment = record { stage = Some (record { cycle = cycle; phase = Excite }); delivered = []; state = opened net Excite inputs state } in
      let leads : OpensPhase net (vectors ++ inputs ∷ []) moment next = record {
        settled = subst IsSettled (sym here.state_is) settled;
        vector = inputs;
        of_cycle = subst (λ (s : Stage). slice_get (vectors ++ inputs ∷ []) s.cycle ≡ Some inputs) (sym next_is) at_end;
        stage = ap (λ s. Some s) (sym next_is);
        delivered = refl;
        state = subst (λ (s : Stage). opened net Excite inputs state ≡ opened net s.phase inputs moment.state) (sym next_is) (ap (opened net Excite inputs) (sym here.state_is));
      } in (
        next,
        leads,
        record {
          reached = (Opens ∷ here.reached.0, (moment, more-vectors net vectors (inputs ∷ []) here.reached.0 moment here.reached.1, leads));
          state_is = refl;
          opened_is = refl;
          begun = let long = length-append vectors (inputs ∷ []) in omega arith;
          last = λ stage e.
              let same : record { cycle = cycle; phase = Excite } ≡ stage = cc in
              subst (λ (s : Stage). slice_get (vectors ++ inputs ∷ []) s.cycle ≡ Some inputs) same at_end;
        },
      )

  excite-from : (inputs : List Bool) → phase_of opened_now ≡ Relax → IsSettled state → ExciteFrom inputs
  excite-from inputs relax settled = go moment.stage refl
    where
      step : (cycle : ℕ) (its : Phase) → moment.stage ≡ Some (record { cycle = cycle; phase = its }) → ExciteFrom inputs
      step cycle Relax e = excite-at inputs settled (cycle + 1) (ap next_stage e) (here.begun ∙ rw e refl)
      step cycle Excite e =
          let f : Some Excite ≡ opened_now = ap (option_map phase_in) (sym e) ∙ here.opened_is in
          let g : Excite ≡ Relax = ap phase_of f ∙ relax in absurd cc

      go : (stage : Option Stage) → moment.stage ≡ stage → ExciteFrom inputs
      go None e = excite-at inputs settled 0 (ap next_stage e) (here.begun ∙ rw e refl)
      go (Some stage) e = step stage.cycle stage.phase e

  -- the opening of relax leads on
  abbrev RelaxFrom : Type 0
  RelaxFrom =
      (next : Moment) × OpensPhase net vectors moment next × StandsAt net (Some Relax) vector (opened net Relax vector state) vectors next

  relax-at : IsSettled state → (cycle : ℕ) → moment.stage ≡ Some (record { cycle = cycle; phase = Excite }) → RelaxFrom
  relax-at settled cycle e =
      let next : Moment = record { stage = Some (record { cycle = cycle; phase = Relax }); delivered = []; state = opened net Relax vector state } in
      let leads : OpensPhase net vectors moment next = record {
        settled = subst IsSettled (sym here.state_is) settled;
        vector = vector;
        of_cycle = subst (λ s. slice_get vectors (next_stage s).cycle ≡ Some vector) (sym e) (here.last _ e);
        stage = ap (λ s. Some (next_stage s)) (sym e);
        delivered = refl;
        state = subst (λ s. opened net Relax vector state ≡ opened net (next_stage s).phase vector moment.state) (sym e) (ap (opened net Relax vector) (sym here.state_is));
      } in (
        next,
        leads,
        record {
          reached = (Opens ∷ here.reached.0, (moment, here.reached.1, leads));
          state_is = refl;
          opened_is = refl;
          begun = here.begun ∙ rw e refl;
          last = λ stage f.
              let same : record { cycle = cycle; phase = Relax } ≡ stage = cc in
              subst (λ (s : Stage). slice_get vectors s.cycle ≡ Some vector) same (here.last _ e);
        },
      )

  relax-from : phase_of opened_now ≡ Excite → IsSettled state → RelaxFrom
  relax-from excite settled = go moment.stage refl
    where
      step : (cycle : ℕ) (its : Phase) → moment.stage ≡ Some (record { cycle = cycle; phase = its }) → RelaxFrom
      step cycle Excite e = relax-at settled cycle e
      step cycle Relax e =
          let f : Some Relax ≡ opened_now = ap (option_map phase_in) (sym e) ∙ here.opened_is in
          let g : Relax ≡ Excite = ap phase_of f ∙ excite in absurd cc

      go : (stage : Option Stage) → moment.stage ≡ stage → RelaxFrom
      go None e =
          let f : None ≡ opened_now = ap (option_map phase_in) (sym e) ∙ here.opened_is in
          let g : Relax ≡ Excite = ap phase_of f ∙ excite in absurd cc
      go (Some stage) e = step stage.cycle stage.phase e

pub start_is_beginning : StartIsBeginning
start_is_beginning world at_start unopened = record {
  reached = ([], refl);
  state_is = sym at_start;
  opened_is = sym unopened;
  begun = refl;
  last = λ stage e. absurd cc;
}

-- where nothing stands in the queue, nothing is pending
pub none-pending : (queue : List ℕ) → queue ≡ [] → (wire : ℕ) → occurrences wire queue ≡ 0
none-pending queue e wire = ap (occurrences wire) e

pub excite_is_opened : ExciteIsOpened
excite_is_opened world vectors moment here relax none inputs =
    excite-from world.net world.opened world.vector (state_of world) vectors moment here inputs relax (none-pending world.queue none)

pub relax_is_opened : RelaxIsOpened
relax_is_opened world vectors moment here excite none =
    relax-from world.net world.opened world.vector (state_of world) vectors moment here excite (none-pending world.queue none)

pub place_is_delivered : PlaceIsDelivered
place_is_delivered before after place wire delivers vectors moment here =
    let r = delivery-from before.net before.opened before.vector (state_of before) vectors moment here wire (state_of after) delivers.delivered in
    (r.0, r.1, rw (delivers.net, delivers.opened, delivers.vector) r.2)

-- the start is reached
pub reached-start : (net : PlainNetlist) (vector : List Bool) → IsReached net None vector (start net)
reached-start net vector = record {
  vectors = [];
  moment = beginning net;
  stands = record { reached = ([], refl); state_is = refl; opened_is = refl; begun = refl; last = λ stage e. absurd cc };
}

module _ (net : PlainNetlist) (phase : Option Phase) (vector : List Bool) (state : State) (here : IsReached net phase vector state) where
  -- and what leads on from what is reached
  pub reached-delivery : (wire : ℕ) (after : State) → deliver net state wire ≡ Delivered after → IsReached net phase vector after
  reached-delivery wire after e =
      let r = delivery-from net phase vector state here.vectors here.moment here.stands wire after e in
      record { vectors = here.vectors; moment = r.0; stands = r.2 }

  pub reached-excite : (inputs : List Bool) → phase_of phase ≡ Relax → IsSettled state → IsReached net (Some Excite) inputs (opened net Excite inputs state)
  reached-excite inputs relax settled =
      let r = excite-from net phase vector state here.vectors here.moment here.stands inputs relax settled in
      record { vectors = here.vectors ++ inputs ∷ []; moment = r.0; stands = r.2 }

  pub reached-relax : phase_of phase ≡ Excite → IsSettled state → IsReached net (Some Relax) vector (opened net Relax vector state)
  reached-relax excite settled =
      let r = relax-from net phase vector state here.vectors here.moment here.stands excite settled in
      record { vectors = here.vectors; moment = r.0; stands = r.2 }

  module _ (sound : IsSound net) where
    -- each pending pulse can be delivered
    pub reached-live : (wire : ℕ) → (state.pending wire ≡ 0 → ⊥) → (after : State) × (deliver net state wire ≡ Delivered after)
    reached-live wire pending =
        let run = run_exists net sound here.vectors in
        let law = order_law net sound here.vectors run.0 run.1 in
        subst (λ s. (after : State) × (deliver net s wire ≡ Delivered after)) here.stands.state_is
        (law.live here.moment here.stands.reached wire (subst (λ (s : State). s.pending wire ≡ 0 → ⊥) (sym here.stands.state_is) pending))

    -- no wire has two pulses pending, and none from the number of wires on has one
    pub reached-once : (wire : ℕ) → (state.pending wire ≤ 1) × (number_of_wires net ≤ wire → state.pending wire ≡ 0)
    reached-once wire =
        let run = run_exists net sound here.vectors in
        let holds = holds-at net sound here.vectors run.0 run.1 here.stands.reached.0 here.moment here.stands.reached.1 in
        subst (λ (s : State). (s.pending wire ≤ 1) × (number_of_wires net ≤ wire → s.pending wire ≡ 0)) here.stands.state_is (go run.0 here.moment.stage holds)
      where
        go : (run : List (List Bool)) (stage : Option Stage) → StageHolds net here.vectors run stage here.moment.state here.moment.delivered
            → (here.moment.state.pending wire ≤ 1) × (number_of_wires net ≤ wire → here.moment.state.pending wire ≡ 0)
        go run None h = let none = h.pending wire in (omega arith, λ le. none)
        go run (Some stage) h = (
          phase-waits net sound _ _ stage.phase here.moment.state here.moment.delivered h wire,
          λ le.
              (phase-low net sound _ _ stage.phase here.moment.state here.moment.delivered h wire le).0,
        )
