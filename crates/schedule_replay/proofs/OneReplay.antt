-- A script fixes the world after it, and what comes of it.
use Rattle.std.proofs.Common.{◌≡◌, ◌+◌, ◌≤◌, ◌<◌, ℕ, zero, suc, inl, inr, List, [], ◌∷◌, length, take, Some, Result, Ok, Err, slice_get, ap, sym, ◌∙◌, subst, arith, refl}
use Rattle.std.proofs.lemmas.Bool.{cases_lt}
use Rattle.std.proofs.lemmas.Option.{slice_get_within, get_or_from_slice_get}
use Rattle.pulse_ids.specs.Ids.{WireId, numbered}
use Rattle.pulse_ids.specs.Lists.{occurrences}
use Rattle.pulse_ids.proofs.CallerLemmas.{IsIn-place}
use Rattle.pulse_ids.proofs.CallerLemmasOnCounts.{IsIn-occurrences, one_place}
use Rattle.cell_netlist.specs.NetRuns.{RunExists}
use Rattle.cell_netlist.specs.World.{State}
use Rattle.pulse_world.specs.EveryOrder.{FollowLaw}
use Rattle.pulse_world.specs.WorldMoments.{PlaceIsDelivered}
use Rattle.pulse_world.specs.Worlds.{PlainWorld, DeliversAt, IsWorld}
use Rattle.schedule_replay.specs.declared.replaying.ScriptFault.{ScriptFault}
use Rattle.schedule_replay.specs.declared.replaying.ScriptFault.TheVariants.{NotPending, Short}
use Rattle.schedule_replay.specs.Settling.{DeliversInTurn, Anywhere, DeliversAll}
use Rattle.schedule_replay.specs.Replaying.{Replays, OneReplay}
use Rattle.schedule_replay.proofs.Turns.{world-after}
use Rattle.schedule_replay.proofs.OneList.{same-delivery}

pending-there : (before after : PlainWorld) (place wire : ℕ) → DeliversAt before after place wire → occurrences wire before.queue ≡ 0 → ⊥
pending-there before after place wire d none = let some = IsIn-occurrences wire before.queue (IsIn-place wire before.queue place d.at) in absurd (omega arith)

module _ (delivered : PlaceIsDelivered) (follows : FollowLaw) (runs : RunExists) where
  -- a wire has one place in the queue of a world
  once : (world : PlainWorld) → IsWorld world → (wire : ℕ) → occurrences wire world.queue ≤ 1
  once world is wire =
      let run = runs world.net is.sound is.reached.vectors in
      subst (λ (s : State). s.pending wire ≤ 1) is.reached.stands.state_is
      ((follows world.net is.sound is.reached.vectors run.0 run.1).one_pending is.reached.moment is.reached.stands.reached wire)

  one-world : (before after other : PlainWorld) (p q wire : ℕ) → IsWorld before → DeliversAt before after p wire → DeliversAt before other q wire → after ≡ other
  one-world before after other p q wire is d g =
      let same = one_place wire before.queue p q (once before is wire) (slice_get_within before.queue p wire d.at) (slice_get_within before.queue q wire g.at)
      (get_or_from_slice_get before.queue p wire 0 d.at) (get_or_from_slice_get before.queue q wire 0 g.at) in
      (same-delivery before after other p wire wire d (subst (λ place. DeliversAt before other place wire) (sym same) g)).1

  pub one-end : (step : ℕ) (wires : List ℕ) (before after other : PlainWorld) → IsWorld before → DeliversInTurn Anywhere step before wires after
      → DeliversInTurn Anywhere step before wires other → after ≡ other
  one-end step [] before after other is h g = h ∙ sym g
  one-end step (wire ∷ wires) before after other is (mid, one, rest) (also, two, others) =
      let same = one-world before mid also one.place two.place wire is one.delivers two.delivers in
      one-end (step + 1) wires mid after other (world-after delivered before mid one.place wire is one.delivers) rest
      (subst (λ m. DeliversInTurn Anywhere (step + 1) m wires other) (sym same) others)

  -- where a script was delivered past an item, its wire was pending at its turn
  passes : (step : ℕ) (script : List ℕ) (at wire : ℕ) (before mid after : PlainWorld) → IsWorld before → slice_get script at ≡ Some wire
      → DeliversInTurn Anywhere step before script after → DeliversInTurn Anywhere step before (take at script) mid → occurrences wire mid.queue ≡ 0 → ⊥
  passes step [] at wire before mid after is e h g none = absurd cc
  passes step (w ∷ script) zero wire before mid after is e (next, one, rest) g none =
      let same : w ≡ wire = cc in
      let from = subst (λ (m : PlainWorld). occurrences wire m.queue ≡ 0) g none in
      pending-there before next one.place w one.delivers (subst (λ x. occurrences x before.queue ≡ 0) (sym same) from)
  passes step (w ∷ script) (suc at) wire before mid after is e (next, one, rest) (also, two, others) none =
      let same = one-world before next also one.place two.place w is one.delivers two.delivers in
      passes (step + 1) script at wire next mid after (world-after delivered before next one.place w is one.delivers) e rest
      (subst (λ m. DeliversInTurn Anywhere (step + 1) m (take at script) mid) (sym same) others) none

  take-get : (xs : List ℕ) (n at x : ℕ) → at < n → slice_get xs at ≡ Some x → slice_get (take n xs) at ≡ Some x
  take-get [] n at x less e = absurd cc
  take-get (y ∷ xs) zero at x less e = absurd (omega arith)
  take-get (y ∷ xs) (suc n) zero x less e = e
  take-get (y ∷ xs) (suc n) (suc at) x less e = take-get xs n at x (omega arith) e

  take-take : (xs : List ℕ) (n at : ℕ) → at < n → take at (take n xs) ≡ take at xs
  take-take xs zero at less = absurd (omega arith)
  take-take [] (suc n) zero less = refl
  take-take [] (suc n) (suc at) less = refl
  take-take (y ∷ xs) (suc n) zero less = refl
  take-take (y ∷ xs) (suc n) (suc at) less = ap (λ (l : List ℕ). y ∷ l) (take-take xs n at (omega arith))

  -- the first item with nothing pending is one
  not-before : (before after other : PlainWorld) (script : List ℕ) (at wire far : ℕ) → IsWorld before → DeliversAll before (take at script) after → slice_get script at ≡ Some wire
      → occurrences wire after.queue ≡ 0 → DeliversAll before (take far script) other → at < far → ⊥
  not-before before after other script at wire far is h e none g less =
      passes 0 (take far script) at wire before after other is (take-get script far at wire less e) g
      (subst (λ ws. DeliversInTurn Anywhere 0 before ws after) (sym (take-take script far at less)) h) none

  all-not : (before after other : PlainWorld) (script : List ℕ) (at : ℕ) (wire : WireId) → IsWorld before → DeliversAll before script after
      → Replays before script other (Err (NotPending at wire)) → ⊥
  all-not before after other script at wire is h (front, item, none) = passes 0 script at wire.number before other after is item h front none

  all-same : (before after other : PlainWorld) (script : List ℕ) → IsWorld before → DeliversAll before script after → DeliversAll before script other → after ≡ other
  all-same before after other script is h g = one-end 0 script before after other is h g

  ok-short : (before after other : PlainWorld) (script : List ℕ) (done : Unit) (left : ℕ) → IsWorld before → Replays before script after (Ok done)
      → Replays before script other (Err (Short left)) → ⊥
  ok-short before after other script done left is (h, none) (g, count, some) =
      let same = all-same before after other script is h g in
      let l : length after.queue ≡ 0 = ap (λ ws. length ws) none in
      let e = ap (λ (w : PlainWorld). length w.queue) same in absurd (omega arith)

  one-item : (before after other : PlainWorld) (script : List ℕ) (at far : ℕ) (wire place : WireId) → IsWorld before → Replays before script after (Err (NotPending at wire))
      → Replays before script other (Err (NotPending far place)) → at ≡ far
  one-item before after other script at far wire place is (h, item, none) (g, other_item, gone) = elim (cases_lt at far) [
    | inl less ↦ absurd (not-before before after other script at wire.number far is h item none g less)
    | inr le ↦ elim (cases_lt far at) [
      | inl less ↦ absurd (not-before before other after script far place.number at is g other_item gone h less)
      | inr ge ↦ omega arith
    ]
  ]

  same-fault : (at far : ℕ) (wire place : WireId) → at ≡ far → wire.number ≡ place.number → ◌≡◌ {A = Result Unit ScriptFault} (Err (NotPending at wire)) (Err (NotPending far place))
  same-fault at far wire place e f = go at far wire.number place.number e f
    where
      go : (a b m n : ℕ) → a ≡ b → m ≡ n → ◌≡◌ {A = Result Unit ScriptFault} (Err (NotPending a (numbered m))) (Err (NotPending b (numbered n)))
      go a b m n e1 e2 = rw (e1, e2) refl

  -- a script has one outcome and one world after it
  pub one-replay : OneReplay
  one-replay before script after other (Ok done) (Ok also) is h g = (refl, all-same before after other script is h.0 g.0)
  one-replay before script after other (Ok done) (Err (Short left)) is h g = absurd (ok-short before after other script done left is h g)
  one-replay before script after other (Ok done) (Err (NotPending at wire)) is h g = absurd (all-not before after other script at wire is h.0 g)
  one-replay before script after other (Err (Short left)) (Ok done) is h g = absurd (ok-short before other after script done left is g h)
  one-replay before script after other (Err (Short left)) (Err (Short rest)) is (h, count, some) (g, again, more) =
      let same = all-same before after other script is h g in
      let e = ap (λ (w : PlainWorld). length w.queue) same in
      (ap (λ n. Err (Short n)) (count ∙ e ∙ sym again), same)
  one-replay before script after other (Err (Short left)) (Err (NotPending at wire)) is h g = absurd (all-not before after other script at wire is h.0 g)
  one-replay before script after other (Err (NotPending at wire)) (Ok done) is h g = absurd (all-not before other after script at wire is g.0 h)
  one-replay before script after other (Err (NotPending at wire)) (Err (Short left)) is h g = absurd (all-not before other after script at wire is g.0 h)
  one-replay before script after other (Err (NotPending at wire)) (Err (NotPending far place)) is (h, item, none) (g, other_item, gone) =
      let e = one-item before after other script at far wire place is (h, item, none) (g, other_item, gone) in
      let both : Some wire.number ≡ Some place.number = sym item ∙ (ap (slice_get script) e ∙ other_item) in
      let f : wire.number ≡ place.number = cc in
      (same-fault at far wire place e f, all-same before after other (take far script) is (subst (λ n. DeliversAll before (take n script) after) e h) g)
