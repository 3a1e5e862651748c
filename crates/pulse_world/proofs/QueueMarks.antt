-- Queues of pending wires with their table of places and their bits.
use Rattle.std.proofs.Common.{◌≡◌, ◌-◌, ◌≤◌, ◌<◌, ◌^◌, ℕ, zero, suc, Bool, true, false, Some, List, [], ◌∷◌, ◌++◌, map, length, replicate, slice_get, slice_set, ap, sym, ◌∙◌, subst, inl, inr, arith, refl}
use Rattle.std.specs.List.{swap_remove}
use Rattle.std.proofs.lemmas.Option.{slice_get_within}
use Rattle.std.proofs.lemmas.List.{map-append, length-map, length-append}
use Rattle.std.proofs.lemmas.Bool.{cases_eq, cases_lt}
use Rattle.pulse_ids.specs.Ids.{WireId}
use Rattle.pulse_ids.specs.Lists.{IsIn, occurrences}
use Rattle.pulse_ids.proofs.CallerLemmas.{place_of, IsIn-left, IsIn-right, IsIn-append}
use Rattle.pulse_ids.proofs.CallerLemmasOnCounts.{test_same, test_other, occurrences-IsIn, IsIn-occurrences}
use Rattle.cell_netlist.proofs.CallerLemmasOnLists.{set-length, set-same, set-other}
use Rattle.pulse_world.specs.PendingQueues.{PlainQueue, number_in, queue_of, ArePlaced, AreMarked, IsQueueOf}
use Rattle.pulse_world.proofs.QueuePlaces.{occurrences-removed, removed-numbers, queue-once, queue-few, removed-placed, appended-placed}

-- the marks of a queue from which the wire of a place was taken, and of one with one more wire
module _ (queue : PlainQueue) (places : List ℕ) (marks : List Bool) (placed : ArePlaced queue places) (marked : AreMarked queue marks) where
  pub removed-marked : (place wire : ℕ) → slice_get queue.wires place ≡ Some wire → wire < length marks
      → AreMarked (record { wires = swap_remove queue.wires place 0; bound = queue.bound }) (slice_set marks wire false)
  removed-marked place wire at inside w = elim (cases_eq w wire) [
    | inl same ↦
        let is = set-same marks wire false inside in
        let once = queue-once queue places placed w in
        let removed = occurrences-removed queue.wires place wire 0 at w in
        let hit = test_same w wire same in (
          λ e. let there = subst (λ k. slice_get (slice_set marks wire false) k ≡ Some true) same e in absurd cc,
          λ i. let some = IsIn-occurrences w (swap_remove queue.wires place 0) i in absurd (omega arith),
        )
    | inr other ↦
        let is = set-other marks wire w false other in
        let removed = occurrences-removed queue.wires place wire 0 at w in
        let miss = test_other w wire other in (
          λ e.
              let some = IsIn-occurrences w queue.wires ((marked w).0 (sym is ∙ e)) in
              occurrences-IsIn w (swap_remove queue.wires place 0) (omega arith),
          λ i.
              let some = IsIn-occurrences w (swap_remove queue.wires place 0) i in
              is ∙ (marked w).1 (occurrences-IsIn w queue.wires (omega arith)),
        )
  ]

  pub appended-marked : (wire : ℕ) → wire < length marks → AreMarked (record { wires = queue.wires ++ wire ∷ []; bound = queue.bound }) (slice_set marks wire true)
  appended-marked wire inside w = elim (cases_eq w wire) [
    | inl same ↦ (
      λ _. IsIn-right w queue.wires (wire ∷ []) (inl (sym same)),
      λ _. ap (slice_get (slice_set marks wire true)) same ∙ set-same marks wire true inside,
    )
    | inr other ↦
        let is = set-other marks wire w true other in (
          λ e. IsIn-left w queue.wires (wire ∷ []) ((marked w).0 (sym is ∙ e)),
          λ i. is ∙ (marked w).1 (elim (IsIn-append w queue.wires (wire ∷ []) i) [ inl old ↦ old | inr (inl new) ↦ absurd (other (sym new)) | inr (inr none) ↦ absurd none ]),
        )
  ]

-- a queue with one more wire
pub queue-append : (wires : List WireId) (places : List ℕ) (marks : List Bool) (room : ℕ) (wire : WireId) → IsQueueOf (queue_of wires (length places)) places marks room
    → wire.number < length places → occurrences wire.number (map number_in wires) ≡ 0
    → IsQueueOf (queue_of (wires ++ wire ∷ []) (length (slice_set places wire.number (length wires)))) (slice_set places wire.number (length wires))
    (slice_set marks wire.number true) room
queue-append wires places marks room wire kept inside none =
    let long = set-length places wire.number (length wires) in
    let wide = set-length marks wire.number true in
    let one = kept.one_mark in
    let count = length-map wires number_in in
    let last = map-append number_in wires (wire ∷ []) in
    record {
      placed = λ p w e. ap (λ n. slice_get (slice_set places wire.number n) w) (sym count)
          ∙ appended-placed (queue_of wires (length places)) places kept.placed wire.number inside none p w (subst (λ ws. slice_get ws p ≡ Some w) last e);
      marked = subst (λ ws. AreMarked (record { wires = ws; bound = length (slice_set places wire.number (length wires)) }) (slice_set marks wire.number true)) (sym last)
          (appended-marked (queue_of wires (length places)) places marks kept.placed kept.marked wire.number (omega arith));
      bound = refl;
      one_mark = omega arith;
      fits = let fits = kept.fits in omega arith;
      small = let small = kept.small in omega arith;
    }

-- a queue from which the wire of a place was taken
pub queue-remove : (wires : List WireId) (places : List ℕ) (marks : List Bool) (room place : ℕ) (wire last d : WireId)
    → IsQueueOf (queue_of wires (length places)) places marks room → place < length wires → slice_get (map number_in wires) place ≡ Some wire.number
    → slice_get (map number_in wires) (length wires - 1) ≡ Some last.number
    → IsQueueOf (queue_of (swap_remove wires place d) (length (slice_set places last.number place))) (slice_set places last.number place)
    (slice_set marks wire.number false) room
queue-remove wires places marks room place wire last d kept inside here at_last =
    let long = set-length places last.number place in
    let wide = set-length marks wire.number false in
    let one = kept.one_mark in
    let low = slice_get_within places wire.number place (kept.placed place wire.number here) in
    let count = length-map wires number_in in
    let at = subst (λ n. slice_get (map number_in wires) (n - 1) ≡ Some last.number) (sym count) at_last in
    let numbers = removed-numbers wires place d inside in
    record {
      placed = λ p w e. removed-placed (queue_of wires (length places)) places kept.placed place last.number at p w
          (subst (λ ws. slice_get ws p ≡ Some w) numbers e);
      marked = subst (λ ws. AreMarked (record { wires = ws; bound = length (slice_set places last.number place) }) (slice_set marks wire.number false)) (sym numbers)
          (removed-marked (queue_of wires (length places)) places marks kept.placed kept.marked place wire.number here (omega arith));
      bound = refl;
      one_mark = omega arith;
      fits = let fits = kept.fits in omega arith;
      small = let small = kept.small in omega arith;
    }

-- how many wires stand in a queue
pub queue-count : (wires : List WireId) (places : List ℕ) (marks : List Bool) (room : ℕ) → IsQueueOf (queue_of wires (length places)) places marks room
    → length wires ≤ length places
queue-count wires places marks room kept =
    let some = queue-few (queue_of wires (length places)) places kept.placed in let count = length-map wires number_in in omega arith

-- the table's place of a wire that stands in the queue is its place there
pub place-in : (wires : List WireId) (places : List ℕ) (marks : List Bool) (room wire place : ℕ) → IsQueueOf (queue_of wires (length places)) places marks room
    → IsIn wire (map number_in wires) → slice_get places wire ≡ Some place → slice_get (map number_in wires) place ≡ Some wire
place-in wires places marks room wire place kept i at =
    let found = place_of wire (map number_in wires) i in
    let its = kept.placed found.0 wire found.1 in
    let same : found.0 ≡ place = cc in subst (λ k. slice_get (map number_in wires) k ≡ Some wire) same found.1

-- a wire that does not stand in the queue occurs nowhere in it
pub none-of : (xs : List ℕ) (wire : ℕ) → (IsIn wire xs → ⊥) → occurrences wire xs ≡ 0
none-of xs wire out = elim (cases_lt 0 (occurrences wire xs)) [
  | inr none ↦ omega arith
  | inl some ↦ absurd (out (occurrences-IsIn wire xs (omega arith)))
]

-- a wire that stands in the queue is below the bound
pub inside-of : (wires : List WireId) (places : List ℕ) (marks : List Bool) (room wire : ℕ) → IsQueueOf (queue_of wires (length places)) places marks room
    → IsIn wire (map number_in wires) → wire < length places
inside-of wires places marks room wire kept i =
    let found = place_of wire (map number_in wires) i in slice_get_within places wire found.0 (kept.placed found.0 wire found.1)

-- there is room for a wire that does not stand in the queue
pub queue-room : (wires : List WireId) (places : List ℕ) (marks : List Bool) (room : ℕ) (wire : WireId) → IsQueueOf (queue_of wires (length places)) places marks room
    → wire.number < length places → occurrences wire.number (map number_in wires) ≡ 0 → length wires < room
queue-room wires places marks room wire kept inside none =
    let more = queue-count (wires ++ wire ∷ []) (slice_set places wire.number (length wires)) (slice_set marks wire.number true) room
    (queue-append wires places marks room wire kept inside none) in
    let long = set-length places wire.number (length wires) in
    let fits = kept.fits in
    let last = length-append wires (wire ∷ []) in
    omega arith

-- a queue without wires, whose bits are all 0
pub queue-empty : (places : List ℕ) (room bound : ℕ) → length places ≡ bound → bound ≤ room → bound < 2 ^ 32
    → IsQueueOf (queue_of [] (length places)) places (replicate bound false) room
queue-empty places room bound long fits small = record {
  placed = λ p w e. absurd (nowhere p w e);
  marked = λ w. (λ e. absurd (unmarked bound w e), λ no. absurd no);
  bound = refl;
  one_mark = long ∙ sym (zeros bound);
  fits = omega arith;
  small = omega arith;
}
  where
    nowhere : (p w : ℕ) → slice_get {X = ℕ} [] p ≡ Some w → ⊥
    nowhere zero w e = cc
    nowhere (suc p) w e = cc

    unmarked : (n w : ℕ) → slice_get (replicate n false) w ≡ Some true → ⊥
    unmarked zero zero e = cc
    unmarked zero (suc w) e = cc
    unmarked (suc n) zero e = cc
    unmarked (suc n) (suc w) e = unmarked n w e

    zeros : (n : ℕ) → length (replicate n false) ≡ n
    zeros zero = refl
    zeros (suc n) = ap (λ k. suc k) (zeros n)
