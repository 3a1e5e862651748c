-- Rows of pending wires: what stands in them, with a table of places.
use Rattle.std.proofs.Common.{◌≡◌, ◌≢◌, ◌+◌, ◌-◌, ◌≤◌, ◌<◌, ◌⊎◌, ℕ, zero, suc, ◌==◌, Some, List, [], ◌∷◌, ◌++◌, map, length, take, slice_get, slice_set, get_or, ap, sym, ◌∙◌, subst, inl, inr, arith, refl, if◌then◌else◌}
use Rattle.std.specs.List.{swap_remove, sum_by}
use Rattle.std.proofs.lemmas.Option.{slice_get_within, slice_get-get_or, get_or_from_slice_get}
use Rattle.std.proofs.lemmas.List.{take-map, map-set, get_or-map, length-map, length-append}
use Rattle.std.proofs.lemmas.List.Sums.{sum_by-cons, sum_by-swap_remove}
use Rattle.pulse_ids.specs.Ids.{WireId}
use Rattle.pulse_ids.specs.Lists.{occurrences}
use Rattle.std.proofs.lemmas.Bool.{cases_eq, cases_lt}
use Rattle.pulse_ids.proofs.CallerLemmas.{IsIn-place, place_of}
use Rattle.pulse_ids.proofs.CallerLemmasOnCounts.{test_same, test_other, occurrences-IsIn, IsIn-occurrences}
use Rattle.cell_netlist.proofs.CallerLemmasOnLists.{set-same, set-other}
use Rattle.pulse_world.specs.PendingQueues.{PlainQueue, number_in, ArePlaced}
use Rattle.pulse_world.proofs.Counts.{few}

module _ {X : Type 0} where
  take-get : (xs : List X) (n p : ℕ) (x : X) → slice_get (take n xs) p ≡ Some x → (p < n) × (slice_get xs p ≡ Some x)
  take-get xs zero zero x e = absurd cc
  take-get xs zero (suc p) x e = absurd cc
  take-get [] (suc n) zero x e = absurd cc
  take-get [] (suc n) (suc p) x e = absurd cc
  take-get (y ∷ xs) (suc n) zero x e = (omega arith, e)
  take-get (y ∷ xs) (suc n) (suc p) x e = let r = take-get xs n p x e in let low = r.0 in (omega arith, r.1)

  -- what stands in a queue from which the item of a place was taken
  pub removed-get : (xs : List X) (place p : ℕ) (x last d : X) → slice_get xs (length xs - 1) ≡ Some last → slice_get (swap_remove xs place d) p ≡ Some x
      → (p < length xs - 1) × (((p ≡ place) × (x ≡ last)) ⊎ ((p ≢ place) × (slice_get xs p ≡ Some x)))
  removed-get xs place p x last d at_last e =
      let is_last = get_or_from_slice_get xs (length xs - 1) last d at_last in
      let g : slice_get (take (length xs - 1) (slice_set xs place last)) p ≡ Some x =
      subst (λ l. slice_get (take (length xs - 1) (slice_set xs place l)) p ≡ Some x) is_last e in
      let t = take-get (slice_set xs place last) (length xs - 1) p x g in (
        t.0,
        elim (cases_eq p place) [
          | inl same ↦
              let low = t.0 in
              let there : slice_get (slice_set xs place last) place ≡ Some x = subst (λ k. slice_get (slice_set xs place last) k ≡ Some x) same t.1 in
              let is = set-same xs place last (omega arith) in
              inl (same, cc)
          | inr other ↦ inr (other, sym (set-other xs place p last other) ∙ t.1)
        ],
      )

  -- an item of a queue with one more
  pub appended-get : (xs : List X) (x y : X) (p : ℕ) → slice_get (xs ++ y ∷ []) p ≡ Some x → (slice_get xs p ≡ Some x) ⊎ ((p ≡ length xs) × (x ≡ y))
  appended-get [] x y zero e = inr (refl, cc)
  appended-get [] x y (suc p) e = absurd cc
  appended-get (z ∷ xs) x y zero e = inl e
  appended-get (z ∷ xs) x y (suc p) e = elim (appended-get xs x y p e) [ inl old ↦ inl old | inr new ↦ inr (ap (λ n. suc n) new.0, new.1) ]

  -- an item put in a list with one more at its end, which is left out then
  take-all : (xs : List X) (y : X) → take (length xs) (xs ++ y ∷ []) ≡ xs
  take-all [] y = refl
  take-all (x ∷ xs) y = ap (λ ys. x ∷ ys) (take-all xs y)

  take-set : (xs : List X) (y z : X) (place : ℕ) → take (length xs) (slice_set (xs ++ y ∷ []) place z) ≡ slice_set xs place z
  take-set [] y z zero = refl
  take-set [] y z (suc place) = refl
  take-set (x ∷ xs) y z zero = ap (λ ys. z ∷ ys) (take-all xs y)
  take-set (x ∷ xs) y z (suc place) = ap (λ ys. x ∷ ys) (take-set xs y z place)

  last-of : (xs : List X) (y d : X) → get_or (xs ++ y ∷ []) (length xs) d ≡ y
  last-of [] y d = refl
  last-of (x ∷ xs) y d = last-of xs y d

  -- where the last item is taken and put in a place of the rest
  pub put-last : (all xs : List X) (last : X) (place : ℕ) → all ≡ xs ++ last ∷ [] → slice_set xs place last ≡ swap_remove all place last
  put-last all xs last place e =
      let one : length (xs ++ last ∷ []) - 1 ≡ length xs = omega (arith, length-append xs (last ∷ [])) in
      sym (ap (λ ys. swap_remove ys place last) e
      ∙ (ap (λ n. take n (slice_set (xs ++ last ∷ []) place (get_or (xs ++ last ∷ []) n last))) one
      ∙ (ap (λ y. take (length xs) (slice_set (xs ++ last ∷ []) place y)) (last-of xs last last) ∙ take-set xs last last place)))

-- the numbers of a queue from which the item of a place was taken
pub removed-numbers : (xs : List WireId) (place : ℕ) (d : WireId) → place < length xs
    → map number_in (swap_remove xs place d) ≡ swap_remove (map number_in xs) place 0
removed-numbers xs place d lt =
    let count = length-map xs number_in in
    let last = get_or-map number_in xs (length xs - 1) d 0 (omega arith) in
    sym (take-map number_in (length xs - 1) (slice_set xs place (get_or xs (length xs - 1) d)))
    ∙ (ap (take (length xs - 1)) (map-set number_in xs place (get_or xs (length xs - 1) d))
    ∙ (ap (λ l. take (length xs - 1) (slice_set (map number_in xs) place l)) (sym last)
    ∙ ap (λ n. take (n - 1) (slice_set (map number_in xs) place (get_or (map number_in xs) (n - 1) 0))) (sym count)))

occurrences-sum : (n : ℕ) (xs : List ℕ) → occurrences n xs ≡ sum_by (λ x. if n == x then 1 else 0) xs
occurrences-sum n [] = refl
occurrences-sum n (x ∷ xs) = let r = occurrences-sum n xs in let s = sum_by-cons (λ y. if n == y then 1 else 0) x xs in omega arith

-- how often a number stands in a queue from which the item of a place was taken
pub occurrences-removed : (xs : List ℕ) (place wire d : ℕ) → slice_get xs place ≡ Some wire → (n : ℕ)
    → occurrences n (swap_remove xs place d) + (if n == wire then 1 else 0) ≡ occurrences n xs
occurrences-removed xs place wire d e n =
    let inside = slice_get_within xs place wire e in
    let is = get_or_from_slice_get xs place wire d e in
    let sums = sum_by-swap_remove (λ x. if n == x then 1 else 0) xs place d inside in
    let rest = occurrences-sum n (swap_remove xs place d) in
    let all = occurrences-sum n xs in
    rest-of _ _ _ _ (if n == wire then 1 else 0) rest all
    (subst (λ x. sum_by (λ y. if n == y then 1 else 0) (swap_remove xs place d) + (if n == x then 1 else 0) ≡ sum_by (λ y. if n == y then 1 else 0) xs) is sums)
  where
    rest-of : (a b c d f : ℕ) → a ≡ b → c ≡ d → b + f ≡ d → a + f ≡ c
    rest-of a b c d f e g h = omega arith

-- where each number has one place, it stands once
pub placed-once : (xs : List ℕ) → ((p q w : ℕ) → slice_get xs p ≡ Some w → slice_get xs q ≡ Some w → p ≡ q) → (w : ℕ) → occurrences w xs ≤ 1
placed-once [] one w = omega arith
placed-once (x ∷ xs) one w =
    let r = placed-once xs (λ p q v at also. let e = one (suc p) (suc q) v at also in omega arith) w in
    elim (cases_eq x w) [
      | inr ne ↦ let t = test_other w x (λ e. ne (sym e)) in omega arith
      | inl e ↦ elim (cases_lt 0 (occurrences w xs)) [
        | inr none ↦ let t = test_same w x (sym e) in omega arith
        | inl some ↦
            let at = place_of w xs (occurrences-IsIn w xs (omega arith)) in
            let no = one 0 (suc at.0) w (ap (λ y. Some y) e) at.1 in absurd (omega arith)
      ]
    ]

module _ (queue : PlainQueue) (places : List ℕ) (placed : ArePlaced queue places) where
  pub one-place : (p q w : ℕ) → slice_get queue.wires p ≡ Some w → slice_get queue.wires q ≡ Some w → p ≡ q
  one-place p q w at also = let a = placed p w at in let b = placed q w also in cc

  pub queue-once : (w : ℕ) → occurrences w queue.wires ≤ 1
  queue-once = placed-once queue.wires one-place

  pub queue-below : (w : ℕ) → length places ≤ w → occurrences w queue.wires ≡ 0
  queue-below w le = elim (cases_lt 0 (occurrences w queue.wires)) [
    | inr none ↦ omega arith
    | inl some ↦
        let at = place_of w queue.wires (occurrences-IsIn w queue.wires (omega arith)) in
        let inside = slice_get_within places w at.0 (placed at.0 w at.1) in absurd (omega arith)
  ]

  pub queue-few : length queue.wires ≤ length places
  queue-few = few queue.wires (length places) queue-once queue-below

  -- a wire that does not stand at its place in the table stands nowhere
  pub queue-none : (wire : ℕ) → ((p : ℕ) → slice_get queue.wires p ≡ Some wire → ⊥) → occurrences wire queue.wires ≡ 0
  queue-none wire nowhere = elim (cases_lt 0 (occurrences wire queue.wires)) [
    | inr none ↦ omega arith
    | inl some ↦ let at = place_of wire queue.wires (occurrences-IsIn wire queue.wires (omega arith)) in absurd (nowhere at.0 at.1)
  ]

  -- the last wire of a queue moved to a place
  pub removed-placed : (place last : ℕ) → slice_get queue.wires (length queue.wires - 1) ≡ Some last
      → ArePlaced (record { wires = swap_remove queue.wires place 0; bound = queue.bound }) (slice_set places last place)
  removed-placed place last at_last p w e =
      let r = removed-get queue.wires place p w last 0 at_last e in
      let low = r.0 in
      let inside = slice_get_within places last (length queue.wires - 1) (placed (length queue.wires - 1) last at_last) in
      elim r.1 [
        | inl moved ↦
            let is = set-same places last place inside in
            ap (slice_get (slice_set places last place)) moved.1 ∙ (is ∙ ap (λ k. Some k) (sym moved.0))
        | inr kept ↦
            set-other places last w place (λ same. let e = one-place p (length queue.wires - 1) w kept.1 (at_last ∙ ap (λ k. Some k) (sym same)) in absurd (omega arith))
            ∙ placed p w kept.1
      ]

  -- a wire put at the end of a queue
  pub appended-placed : (wire : ℕ) → wire < length places → occurrences wire queue.wires ≡ 0
      → ArePlaced (record { wires = queue.wires ++ wire ∷ []; bound = queue.bound }) (slice_set places wire (length queue.wires))
  appended-placed wire inside none p w e = elim (appended-get queue.wires w wire p e) [
    | inl old ↦ set-other places wire w (length queue.wires)
        (λ same. let g = IsIn-occurrences w queue.wires (IsIn-place w queue.wires p old) in let h = ap (λ k. occurrences k queue.wires) same in absurd (omega arith)) ∙ placed p w old
    | inr new ↦ ap (slice_get (slice_set places wire (length queue.wires))) new.1 ∙ (set-same places wire (length queue.wires) inside ∙ ap (λ k. Some k) (sym new.0))
  ]

-- the number of the wire at a place of a queue
pub number-at : (wires : List WireId) (place : ℕ) (wire : WireId) → place < length wires → wire ≡ get_or wires place wire
    → slice_get (map number_in wires) place ≡ Some wire.number
number-at wires place wire inside e =
    let count = length-map wires number_in in
    slice_get-get_or (map number_in wires) place 0 (omega arith)
    ∙ ap (λ n. Some n) (get_or-map number_in wires place wire 0 inside ∙ ap number_in (sym e))

pub number-there : (wires : List WireId) (place : ℕ) (wire : WireId) → slice_get wires place ≡ Some wire → slice_get (map number_in wires) place ≡ Some wire.number
number-there [] zero wire e = absurd cc
number-there [] (suc place) wire e = absurd cc
number-there (x ∷ wires) zero wire e = let same : x ≡ wire = cc in ap (λ w. Some (number_in w)) same
number-there (x ∷ wires) (suc place) wire e = number-there wires place wire e
