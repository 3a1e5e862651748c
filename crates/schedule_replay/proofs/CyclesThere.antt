-- On vectors of the netlist's width an order has all cycles, without code.
use Rattle.std.proofs.Common.{◌≡◌, ◌+◌, ◌≤◌, ◌<◌, ℕ, zero, suc, Bool, List, [], ◌∷◌, map, length, ap, sym, ◌∙◌, subst, inl, inr, arith, refl}
use Rattle.std.proofs.lemmas.List.{length-append}
use Rattle.std.proofs.lemmas.Option.{slice_get-get_or}
use Rattle.std.specs.Prelude.{get_or}
use Rattle.pulse_ids.specs.Lists.{IsIn}
use Rattle.cell_netlist.specs.declared.kinds.Phase.TheVariants.{Excite, Relax}
use Rattle.cell_netlist.specs.Netlists.{PlainNetlist, number_of_wires}
use Rattle.cell_netlist.specs.NetRuns.{RunExists}
use Rattle.cell_netlist.specs.OneReader.{PlacesAreCounted, DeliveryIsToReader, MomentsKeepShape}
use Rattle.cell_netlist.specs.Runs.{Moment}
use Rattle.pulse_world.specs.EveryOrder.{OrderLaw, FollowLaw}
use Rattle.pulse_world.specs.WorldMoments.{ExciteIsOpened, RelaxIsOpened, PlaceIsDelivered}
use Rattle.pulse_world.specs.Worlds.{PlainWorld, phase_of, opened_world, IsWorldAt, IsWorld}
use Rattle.schedule_replay.specs.Settling.{DeliversNamed}
use Rattle.schedule_replay.specs.Orders.{named_by, NamesPending, SettlesBy, OrdersSettle, Cycle, vector_of, MakesCycle, MakesCycles, IsBetween, CyclesThere}
use Rattle.schedule_replay.proofs.Turns.{world-after, turns-keep, few-from}
use Rattle.schedule_replay.proofs.CallerLemmas.{excited_world, relaxed_world}
use Rattle.schedule_replay.proofs.Deliverable.{delivery-there}

module _ (orders : OrderLaw) (follows : FollowLaw) (runs : RunExists) (places : PlacesAreCounted) (to_reader : DeliveryIsToReader) (shapes : MomentsKeepShape)
    (excites : ExciteIsOpened) (relaxes : RelaxIsOpened) (delivered : PlaceIsDelivered) where
  module _ (place_of : ℕ → ℕ → ℕ) (pending : NamesPending place_of) where
    abbrev Settles : ℕ → PlainWorld → Type 0
    Settles step before = (wires : List ℕ) × (after : PlainWorld) × SettlesBy place_of step before wires after

    -- by the deliveries that are left at the most
    settles-within : (fuel step : ℕ) (before : PlainWorld) (vectors : List (List Bool)) (moment : Moment) → IsWorld before → IsWorldAt before vectors moment
        → number_of_wires before.net < length moment.delivered + fuel → Settles step before
    settles-within zero step before vectors moment is stands less =
        let few = few-from delivered orders runs (named_by place_of) step [] before before vectors moment is.sound stands refl in absurd (omega arith)
    settles-within (suc fuel) step before vectors moment is stands less =
        go (λ after next stays here left. settles-within fuel (step + 1) after vectors next stays here left) before.queue refl
      where
        go : ((after : PlainWorld) (next : Moment) → IsWorld after → IsWorldAt after vectors next → number_of_wires after.net < length next.delivered + fuel
            → Settles (step + 1) after) → (queue : List ℕ) → before.queue ≡ queue → Settles step before
        go onward [] none = ([], before, (refl, none))
        go onward (w ∷ queue) some =
            let count = length before.queue in
            let many : 1 ≤ count = let l = ap (λ ws. length ws) some in omega arith in
            let place = place_of step count in
            let wire = get_or before.queue place 0 in
            let at = slice_get-get_or before.queue place 0 (pending step count many) in
            let d = delivery-there before place wire at orders follows runs places to_reader shapes is in
            let next = delivered before d.0 place wire d.1 vectors moment stands in
            let same = ap number_of_wires d.1.net in
            let longer = ap (λ ws. length ws) next.1.delivered ∙ length-append moment.delivered (wire ∷ []) in
            let rest = onward d.0 next.0 (world-after delivered before d.0 place wire is d.1) next.2 (omega arith) in
            let first : DeliversNamed (named_by place_of) step before d.0 wire = record { place = place; named = refl; delivers = d.1 } in
            (wire ∷ rest.0, rest.1, ((d.0, first, rest.2.0), rest.2.1))

    settles-there : (step : ℕ) (before : PlainWorld) → IsWorld before → Settles step before
    settles-there step before is =
        settles-within (number_of_wires before.net + 1) step before is.reached.vectors is.reached.moment is is.reached.stands (omega arith)

    cycle-there : (step : ℕ) (vector : List Bool) (before : PlainWorld) → IsBetween before → length vector ≡ before.net.inputs
        → (cycle : Cycle) × (after : PlainWorld) × (cycle.vector ≡ vector) × MakesCycle (named_by place_of) step before cycle after × IsBetween after × (after.net ≡ before.net)
    cycle-there step vector before between width =
        let excited = excited_world excites before vector between width in
        let first = settles-there step (opened_world Excite vector before) excited in
        let kept = turns-keep delivered (named_by place_of) step first.0 (opened_world Excite vector before) first.1 excited first.2.0 in
        let relaxed = subst (λ v. IsWorld (opened_world Relax v first.1)) kept.vector (relaxed_world relaxes first.1 kept.world (ap phase_of kept.opened) first.2.1) in
        let second = settles-there (step + length first.0) (opened_world Relax vector first.1) relaxed in
        let keeps = turns-keep delivered (named_by place_of) (step + length first.0) second.0 (opened_world Relax vector first.1) second.1 relaxed second.2.0 in (
          record { vector = vector; excite = first.0; relax = second.0 },
          second.1,
          refl,
          record { middle = first.1; excites = first.2.0; rests = first.2.1; relaxes = second.2.0; settled = second.2.1 },
          record { world = keeps.world; phase = ap phase_of keeps.opened; settled = second.2.1 },
          keeps.net ∙ kept.net,
        )

    cycles-from : (vectors : List (List Bool)) (step : ℕ) (before : PlainWorld) → IsBetween before
        → ((vector : List Bool) → IsIn vector vectors → length vector ≡ before.net.inputs)
        → (cycles : List Cycle) × (after : PlainWorld) × (map vector_of cycles ≡ vectors) × MakesCycles (named_by place_of) step before cycles after × IsBetween after
    cycles-from [] step before between fits = ([], before, refl, refl, between)
    cycles-from (vector ∷ vectors) step before between fits =
        let one = cycle-there step vector before between (fits vector (inl refl)) in
        let rest = cycles-from vectors (step + length one.0.excite + length one.0.relax) one.1 one.4
        (λ v i. fits v (inr i) ∙ ap (λ (n : PlainNetlist). n.inputs) (sym one.5)) in
        (one.0 ∷ rest.0, rest.1, (let a = one.2 in let b = rest.2 in cc), (one.1, one.3, rest.3), rest.4)

  pub orders-settle : OrdersSettle
  orders-settle place_of pending step before is = settles-there place_of pending step before is

  pub cycles-there : CyclesThere
  cycles-there place_of pending vectors step before between fits = cycles-from place_of pending vectors step before between fits
