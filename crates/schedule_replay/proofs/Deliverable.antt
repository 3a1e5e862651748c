-- The pulse at each place of a world's queue can be delivered.
use Rattle.std.proofs.Common.{◌≡◌, ◌+◌, ◌-◌, ◌<◌, ℕ, Option, Some, None, List, [], ◌∷◌, ◌++◌, length, slice_get, slice_set, slice_index, append-nil, ap, sym, ◌∙◌, subst, inl, inr, arith, refl}
use Rattle.std.proofs.Common.{if◌then◌else◌, ◌==◌}
use Rattle.std.specs.List.{swap_remove, sum_by}
use Rattle.std.proofs.lemmas.List.Sums.{sum_by-cons, sum_by-swap_remove}
use Rattle.std.proofs.Math.Path.{fun_ext}
use Rattle.std.proofs.lemmas.Bool.{cases_eq}
use Rattle.std.proofs.lemmas.Option.{slice_get_within, get_or_from_slice_get}
use Rattle.pulse_ids.specs.Lists.{occurrences}
use Rattle.pulse_ids.proofs.CallerLemmas.{IsIn-place}
use Rattle.pulse_ids.proofs.CallerLemmasOnCounts.{occurrences-append, IsIn-occurrences, test_same, test_other}
use Rattle.cell_netlist.specs.declared.lines.Reader.{Reader}
use Rattle.cell_netlist.specs.declared.lines.Reader.TheVariants.{A, B, From, Feed, Output}
use Rattle.cell_netlist.specs.Netlists.{number_of_wires}
use Rattle.cell_netlist.specs.NetRuns.{RunExists}
use Rattle.cell_netlist.specs.OneReader.{after_reaction, after_count, delivered_to, reaction_at, PlacesAreCounted, DeliveryIsToReader, MomentsKeepShape}
use Rattle.cell_netlist.specs.Places.{readers}
use Rattle.cell_netlist.specs.Runs.{Stage}
use Rattle.cell_netlist.specs.World.{State, Reaction, Delivered, deliver}
use Rattle.pulse_world.specs.EveryOrder.{OrderLaw, FollowLaw}
use Rattle.pulse_world.specs.Reacting.{emitted_by, emitted_at}
use Rattle.pulse_world.specs.Worlds.{PlainWorld, state_of, DeliversAt, IsWorld}

-- how often a number stands in a queue from which the item of a place was taken
occurrences-left : (xs : List ℕ) (place wire : ℕ) → slice_get xs place ≡ Some wire → (n : ℕ)
    → occurrences n (swap_remove xs place 0) + (if n == wire then 1 else 0) ≡ occurrences n xs
occurrences-left xs place wire e n =
    let inside = slice_get_within xs place wire e in
    let is = get_or_from_slice_get xs place wire 0 e in
    let sums = sum_by-swap_remove (λ x. if n == x then 1 else 0) xs place 0 inside in
    let rest = as-sum n (swap_remove xs place 0) in
    let all = as-sum n xs in
    rest-of _ _ _ _ (if n == wire then 1 else 0) rest all
    (subst (λ x. sum_by (λ y. if n == y then 1 else 0) (swap_remove xs place 0) + (if n == x then 1 else 0) ≡ sum_by (λ y. if n == y then 1 else 0) xs) is sums)
  where
    as-sum : (n : ℕ) (xs : List ℕ) → occurrences n xs ≡ sum_by (λ x. if n == x then 1 else 0) xs
    as-sum n [] = refl
    as-sum n (x ∷ xs) = let r = as-sum n xs in let s = sum_by-cons (λ y. if n == y then 1 else 0) x xs in omega arith

    rest-of : (a b c d f : ℕ) → a ≡ b → c ≡ d → b + f ≡ d → a + f ≡ c
    rest-of a b c d f e g h = omega arith

one-item : {X : Type 0} (xs : List X) → length xs ≡ 1 → (x : X) × (xs ≡ x ∷ [])
one-item [] e = absurd (omega arith)
one-item (x ∷ []) e = (x, refl)
one-item (x ∷ y ∷ xs) e = absurd (omega arith)

module _ (world : PlainWorld) (place wire : ℕ) (at : slice_get world.queue place ≡ Some wire) where
  pub pending-there : occurrences wire world.queue ≡ 0 → ⊥
  pending-there none = let some = IsIn-occurrences wire world.queue (IsIn-place wire world.queue place at) in absurd (omega arith)

  -- the queue without the wire, and then what was emitted
  queue-after : (emitted : List ℕ) (other : ℕ)
      → (occurrences other world.queue - (if wire == other then 1 else 0)) + occurrences other emitted ≡ occurrences other (swap_remove world.queue place 0 ++ emitted)
  queue-after emitted other =
      let left = occurrences-left world.queue place wire at other in
      let parts = occurrences-append other (swap_remove world.queue place 0) emitted in
      elim (cases_eq wire other) [
        | inl same ↦ let t = test_same wire other same in let u = test_same other wire (sym same) in omega arith
        | inr ne ↦ let t = test_other wire other ne in let u = test_other other wire (λ e. ne (sym e)) in omega arith
      ]

  -- the queue without the wire
  queue-left : (other : ℕ) → occurrences other world.queue - (if wire == other then 1 else 0) ≡ occurrences other (swap_remove world.queue place 0)
  queue-left other =
      let left = occurrences-left world.queue place wire at other in
      elim (cases_eq wire other) [
        | inl same ↦ let t = test_same wire other same in let u = test_same other wire (sym same) in omega arith
        | inr ne ↦ let t = test_other wire other ne in let u = test_other other wire (λ e. ne (sym e)) in omega arith
      ]

  abbrev Goes : Type 0
  Goes = (after : PlainWorld) × DeliversAt world after place wire

  module _ (live : (after : State) × (deliver world.net (state_of world) wire ≡ Delivered after)) (reader : Reader) (reads : readers world.net wire ≡ reader ∷ []) where
    -- at a cell of this number
    at-cell : (c : ℕ) (o : Option Reaction) → deliver world.net (state_of world) wire ≡ after_reaction (state_of world) wire c o
        → emitted_at world.net.cells world.cell_states reader ≡ emitted_by o → Goes
    at-cell c None e emits = let f = live.1 in absurd cc
    at-cell c (Some reacted) e emits = (
      record world { cell_states = slice_set world.cell_states c reacted.cell_state; queue = swap_remove world.queue place 0 ++ reacted.emitted },
      record {
        at = at;
        delivered = e ∙ ap (λ (pending : ℕ → ℕ). Delivered (record
            { cell_states = slice_set world.cell_states c reacted.cell_state; pending = pending; counted = world.counted })) (fun_ext (queue-after reacted.emitted));
        reader = reader;
        reads = reads;
        queue = ap (λ ws. swap_remove world.queue place 0 ++ ws) (sym emits);
        net = refl;
        opened = refl;
        vector = refl;
      },
    )

    -- at an output rail of this number
    at-rail : (r : ℕ) → deliver world.net (state_of world) wire ≡ after_count (state_of world) wire r
        → emitted_at world.net.cells world.cell_states reader ≡ [] → Goes
    at-rail r e emits = (
      record world { queue = swap_remove world.queue place 0; counted = slice_set world.counted r (slice_index world.counted r + 1) },
      record {
        at = at;
        delivered = e ∙ ap (λ (pending : ℕ → ℕ). Delivered (record
            { cell_states = world.cell_states; pending = pending; counted = slice_set world.counted r (slice_index world.counted r + 1) })) (fun_ext queue-left);
        reader = reader;
        reads = reads;
        queue = sym (append-nil (swap_remove world.queue place 0)) ∙ ap (λ ws. swap_remove world.queue place 0 ++ ws) (sym emits);
        net = refl;
        opened = refl;
        vector = refl;
      },
    )

  at-reader : (live : (after : State) × (deliver world.net (state_of world) wire ≡ Delivered after)) (reader : Reader) → readers world.net wire ≡ reader ∷ []
      → deliver world.net (state_of world) wire ≡ delivered_to world.net (state_of world) wire reader → Goes
  at-reader live (A id) reads e = at-cell live (A id) reads id.number (reaction_at world.net.cells world.cell_states id.number (A id)) e refl
  at-reader live (B id) reads e = at-cell live (B id) reads id.number (reaction_at world.net.cells world.cell_states id.number (B id)) e refl
  at-reader live (From id) reads e = at-cell live (From id) reads id.number (reaction_at world.net.cells world.cell_states id.number (From id)) e refl
  at-reader live (Feed id) reads e = at-cell live (Feed id) reads id.number (reaction_at world.net.cells world.cell_states id.number (Feed id)) e refl
  at-reader live (Output id) reads e = at-rail live (Output id) reads id.number e refl

  module _ (orders : OrderLaw) (follows : FollowLaw) (runs : RunExists) (places : PlacesAreCounted) (to_reader : DeliveryIsToReader) (shapes : MomentsKeepShape)
      (is : IsWorld world) where
    pending-at : is.reached.moment.state.pending wire ≡ 0 → ⊥
    pending-at = subst (λ (s : State). s.pending wire ≡ 0 → ⊥) (sym is.reached.stands.state_is) pending-there

    below : wire < number_of_wires world.net
    below = go is.reached.moment.stage refl
      where
        go : (stage : Option Stage) → is.reached.moment.stage ≡ stage → wire < number_of_wires world.net
        go None e =
            let run = runs world.net is.sound is.reached.vectors in
            let none = (follows world.net is.sound is.reached.vectors run.0 run.1).unopened is.reached.moment is.reached.stands.reached e in
            absurd (pending-at (none.1 wire))
        go (Some stage) e =
            let run = runs world.net is.sound is.reached.vectors in
            ((follows world.net is.sound is.reached.vectors run.0 run.1).pending_due is.reached.moment is.reached.stands.reached stage e wire pending-at).0

    live : (after : State) × (deliver world.net (state_of world) wire ≡ Delivered after)
    live =
        let run = runs world.net is.sound is.reached.vectors in
        subst (λ s. (after : State) × (deliver world.net s wire ≡ Delivered after)) is.reached.stands.state_is
        ((orders world.net is.sound is.reached.vectors run.0 run.1).live is.reached.moment is.reached.stands.reached wire pending-at)

    shape : (length world.cell_states ≡ length world.net.cells) × (length world.counted ≡ length world.net.output_rails)
    shape = subst (λ (s : State). (length s.cell_states ≡ length world.net.cells) × (length s.counted ≡ length world.net.output_rails)) is.reached.stands.state_is
        (shapes world.net is.reached.vectors is.reached.moment is.reached.stands.reached)

    pub delivery-there : Goes
    delivery-there =
        let some = is.sound.wired.all_read wire below in
        let once = is.sound.wired.none_read_twice wire below in
        let count = (places world.net wire).1 in
        let one = one-item (readers world.net wire) (omega arith) in
        at-reader live one.0 one.1 (to_reader world.net (state_of world) wire one.0 one.1 shape.0 shape.1 pending-there)
