-- From every world a script has an outcome, without code.
use Rattle.std.proofs.Common.{◌≡◌, ◌<◌, ℕ, suc, inl, inr, List, [], ◌∷◌, length, take, Result, Ok, Err, ap, arith, refl}
use Rattle.pulse_ids.specs.Ids.{numbered}
use Rattle.pulse_ids.proofs.CallerLemmas.{is_in, place_of}
use Rattle.pulse_ids.proofs.CallerLemmasOnCounts.{occurrences-absent}
use Rattle.cell_netlist.specs.NetRuns.{RunExists}
use Rattle.cell_netlist.specs.OneReader.{PlacesAreCounted, DeliveryIsToReader, MomentsKeepShape}
use Rattle.pulse_world.specs.EveryOrder.{OrderLaw, FollowLaw}
use Rattle.pulse_world.specs.WorldMoments.{PlaceIsDelivered}
use Rattle.pulse_world.specs.Worlds.{PlainWorld, DeliversAt, IsWorld}
use Rattle.schedule_replay.specs.declared.replaying.ScriptFault.{ScriptFault}
use Rattle.schedule_replay.specs.declared.replaying.ScriptFault.TheVariants.{NotPending, Short}
use Rattle.schedule_replay.specs.Settling.{Anywhere, DeliversAll}
use Rattle.schedule_replay.specs.Replaying.{Replays, ScriptsEnd}
use Rattle.schedule_replay.proofs.Turns.{world-after, at-any-place}
use Rattle.schedule_replay.proofs.Deliverable.{delivery-there}

abbrev Ends : PlainWorld → List ℕ → Type 0
Ends before script = (after : PlainWorld) × (result : Result Unit ScriptFault) × Replays before script after result

-- one more delivery before others
first-of : (before mid after : PlainWorld) (place wire : ℕ) (wires : List ℕ) → DeliversAt before mid place wire → DeliversAll mid wires after
    → DeliversAll before (wire ∷ wires) after
first-of before mid after place wire wires d h = (mid, record { place = place; named = tt; delivers = d }, at-any-place Anywhere 0 1 wires mid after h)

-- and then what comes of the script after it
longer : (before mid after : PlainWorld) (place wire : ℕ) (script : List ℕ) (result : Result Unit ScriptFault) → DeliversAt before mid place wire
    → Replays mid script after result → Ends before (wire ∷ script)
longer before mid after place wire script (Ok done) d (h, none) = (after, Ok done, (first-of before mid after place wire script d h, none))
longer before mid after place wire script (Err (Short left)) d (h, count, some) =
    (after, Err (Short left), (first-of before mid after place wire script d h, count, some))
longer before mid after place wire script (Err (NotPending at other)) d (h, item, none) =
    (after, Err (NotPending (suc at) other), (first-of before mid after place wire (take at script) d h, item, none))

-- an empty script
nothing-ends : (before : PlainWorld) (queue : List ℕ) → before.queue ≡ queue → Ends before []
nothing-ends before [] none = (before, Ok tt, (refl, none))
nothing-ends before (wire ∷ queue) some =
    let many : 0 < length before.queue = let l = ap (λ ws. length ws) some in omega arith in
    (before, Err (Short (length before.queue)), (refl, refl, many))

module _ (orders : OrderLaw) (follows : FollowLaw) (runs : RunExists) (places : PlacesAreCounted) (to_reader : DeliveryIsToReader) (shapes : MomentsKeepShape)
    (delivered : PlaceIsDelivered) where
  ends-from : (script : List ℕ) (before : PlainWorld) → IsWorld before → Ends before script
  ends-from [] before is = nothing-ends before before.queue refl
  ends-from (wire ∷ script) before is = elim (is_in wire before.queue) [
    | inl there ↦
        let at = place_of wire before.queue there in
        let d = delivery-there before at.0 wire at.1 orders follows runs places to_reader shapes is in
        let rest = ends-from script d.0 (world-after delivered before d.0 at.0 wire is d.1) in
        longer before d.0 rest.0 at.0 wire script rest.1 d.1 rest.2
    | inr none ↦ (before, Err (NotPending 0 (numbered wire)), (refl, refl, occurrences-absent wire before.queue none))
  ]

  pub scripts-end : ScriptsEnd
  scripts-end before script is = ends-from script before is
