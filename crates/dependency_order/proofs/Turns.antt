-- Numbers that get known, items that come, and the end of the search.
use Rattle.std.proofs.Common.{◌≡◌, ◌≢◌, ℕ, zero, suc, ◌+◌, ◌≤◌, ◌<◌, ◌⊎◌, inl, inr, List, [], ◌∷◌, ◌++◌, length, take, drop, get_or, set, Bool, true, false, refl, sym, ◌∙◌, ap, subst, arith, length-append, Contains, IsPermutation}
use Rattle.std.specs.Prelude.{slice_index}
use Rattle.std.proofs.lemmas.List.{get_or-set_other, length-set, length-replicate, get_or_append_left, take-append-le}
use Rattle.std.proofs.Math.Seq.{get_or-append_seam}
use Rattle.std.proofs.lemmas.List.Elements.{Contains-get_or, Contains-append_left, Contains-push_cases}
use Rattle.std.proofs.lemmas.List.Sorted.{IsPermutation-sym}
use Rattle.dependency_order.specs.Dependencies.{PlainDependencies, AreInRange, needs_of, yields_of}
use Rattle.dependency_order.specs.Orders.{Reached, at_start, by_item, Reaches, IsKnown, IsReady, IsOrderOf}
use Rattle.dependency_order.specs.Readers.{Links}
use Rattle.dependency_order.specs.Searches.{Stage, IsBegun, IsSettled, has_been_ready, lacks_one, AllSettled, AreYielded, IsSearch, IsReader, AreReaders, LearnsOne, IsDone}
use Rattle.dependency_order.proofs.Members.{same_or_not, lower_or_not, Contains-nil, Contains-cons_cases, place_of, place_in_take, in_or_not, present_by_times, times_in-append, times_in-head, times_in-absent, times_in-present, times_in-pushed, length_pushed, distinct_by_times}
use Rattle.dependency_order.proofs.Cuts.{take_append}
use Rattle.dependency_order.proofs.Bits.{number_of, bit_number, still_set, set_before, all_clear, none_set, all_zero}

true_of_one : (b : Bool) → 1 ≤ number_of b → b ≡ true
true_of_one true le = refl
true_of_one false le = absurd (omega arith)

-- a bit that is 1 is within the list
bit_within : (bits : List Bool) (place : ℕ) → get_or bits place false ≡ true → place < length bits
bit_within [] place e = absurd cc
bit_within (bit ∷ bits) zero e = omega arith
bit_within (bit ∷ bits) (suc place) e = omega (arith, bit_within bits place e)

at_most_one : (b : Bool) → number_of b ≤ 1
at_most_one true = omega arith
at_most_one false = omega arith

module _ (d : PlainDependencies) (allows : ℕ → ℕ → Type 0) where
  pub begins : AreInRange d → (stage : Stage) → IsBegun d stage → IsSearch d allows stage []
  begins range stage b = record {
    width = b.known.width ∙ length-replicate d.count false;
    wide = ap (λ l. length l) b.places ∙ length-replicate (length d.needs) 0;
    marked = ap (λ l. length l) b.queued ∙ length-replicate (length d.needs) false;
    within = λ item lt. omega (arith, at_first item);
    passed = λ item lt place low. absurd (omega (arith, low, at_first item));
    full = λ item q. let f : get_or stage.queued item false ≡ false = clear item in absurd cc;
    times = λ item. rw b.order (omega (arith, bit_number _ false (clear item)));
    few = rw (b.order, b.queued) (omega (arith, all_clear (length d.needs)));
    knows = λ number k. rw b.order (inl (started number k));
    started = λ number i. b.known.marked number i;
    ready = λ place lt. absurd (omega (arith, lt, ap (λ l. length l) b.order));
    chosen = λ place other lt inside out all. absurd (omega (arith, lt, ap (λ l. length l) b.order));
  }
    where
      at_first : (item : ℕ) → slice_index stage.places item ≡ 0
      at_first item = ap (λ l. slice_index l item) b.places ∙ all_zero (length d.needs) item

      clear : (item : ℕ) → get_or stage.queued item false ≡ false
      clear item = ap (λ l. get_or l item false) b.queued ∙ none_set (length d.needs) item

      started : (number : ℕ) → get_or stage.known number false ≡ true → Contains d.starts number
      started number k = elim (in_or_not number d.starts) [
        | inl i ↦ i
        | inr out ↦ let f : get_or stage.known number false ≡ false = b.known.kept number out ∙ none_set d.count number in absurd cc
      ]

  pub begun_yielded : (before after : Stage) → IsBegun d before → after.order ≡ before.order → AreYielded d [] after
  begun_yielded before after b e item i = absurd (Contains-nil item (subst (λ l. Contains l item) (e ∙ b.order) i))

  module _ (stage : Stage) (waiting : List ℕ) (h : IsSearch d allows stage waiting) where
    abbrev learns : ℕ → Stage
    learns number = record { known = set stage.known number true; places = stage.places; queued = stage.queued; order = stage.order }

    pub learn_keeps : (number : ℕ) → number < d.count → IsKnown d stage.order number → IsSearch d allows (learns number) waiting
    learn_keeps number lt k = record {
      width = length-set stage.known number true ∙ h.width;
      wide = h.wide;
      marked = h.marked;
      within = h.within;
      passed = λ item l place low. still_set stage.known number _ (omega (arith, h.width)) (h.passed item l place low);
      full = h.full;
      times = h.times;
      few = h.few;
      knows = λ other e. elim (set_before stage.known number other e) [
        | inl same ↦ subst (λ n. IsKnown d stage.order n) (sym same) k
        | inr old ↦ h.knows other old
      ];
      started = λ other i. still_set stage.known number other (omega (arith, h.width)) (h.started other i);
      ready = h.ready;
      chosen = h.chosen;
    }

    -- each item is settled still, or needs the number
    pub learn_leaves : (links : Links) → AreReaders d links → AllSettled d stage → (number : ℕ) → (item : ℕ) → item < length d.needs → IsSettled d (learns number) item
        ⊎ IsReader links (slice_index links.heads number) item
    learn_leaves links linked settled number item lt = go (settled item lt)
      where
        waits : ℕ
        waits = slice_index (needs_of d item) (slice_index stage.places item)

        by : slice_index stage.places item < length (needs_of d item) → get_or stage.known waits false ≡ false → (waits ≡ number) ⊎ (waits ≢ number) → IsSettled d
            (learns number) item ⊎ IsReader links (slice_index links.heads number) item
        by low u (inl e) =
            inr (subst (λ n. IsReader links (slice_index links.heads n) item) e (linked.all item lt waits (Contains-get_or (needs_of d item) (slice_index stage.places item) 0 low)))
        by low u (inr ne) = inl (lacks_one low (get_or-set_other stage.known number waits true false ne ∙ u))

        go : IsSettled d stage item → IsSettled d (learns number) item ⊎ IsReader links (slice_index links.heads number) item
        go (has_been_ready q) = inl (has_been_ready q)
        go (lacks_one low u) = by low u (same_or_not waits number)

    -- an item that has been ready is in range
    been_in_range : (item : ℕ) → get_or stage.queued item false ≡ true → item < length d.needs
    been_in_range item q = omega (arith, bit_within stage.queued item q, h.marked)

    been_ready : (item : ℕ) → get_or stage.queued item false ≡ true → IsReady d stage.order item
    been_ready item q used i =
        let p = place_of used (needs_of d item) i in
        h.knows used (subst (λ n. get_or stage.known n false ≡ true) p.2 (h.passed item (been_in_range item q) p.0 (omega (arith, p.1, h.full item q))))

    ordered_been : (item : ℕ) → Contains stage.order item → get_or stage.queued item false ≡ true
    ordered_been item i = true_of_one _ (omega (arith, h.times item, times_in-present item stage.order i))

    waiting_been : (item : ℕ) → Contains waiting item → get_or stage.queued item false ≡ true
    waiting_been item i = true_of_one _ (omega (arith, h.times item, times_in-present item waiting i))

    -- what the order makes known is known
    pub known_of : AreYielded d [] stage → (number : ℕ) → IsKnown d stage.order number → get_or stage.known number false ≡ true
    known_of yielded number (inl i) = h.started number i
    known_of yielded number (inr y) = elim (yielded y.0 y.1 number y.2) [ inl k ↦ k | inr i ↦ absurd (Contains-nil number i) ]

    -- an item that is ready has been so
    pub ready_been : AllSettled d stage → AreYielded d [] stage → (item : ℕ) → item < length d.needs → IsReady d stage.order item → get_or stage.queued item false ≡ true
    ready_been settled yielded item lt all = go (settled item lt)
      where
        go : IsSettled d stage item → get_or stage.queued item false ≡ true
        go (has_been_ready q) = q
        go (lacks_one low u) =
            let waits = slice_index (needs_of d item) (slice_index stage.places item) in
            let k : get_or stage.known waits false ≡ true = known_of yielded waits (all waits (Contains-get_or (needs_of d item) (slice_index stage.places item) 0 low)) in
            absurd cc

    module _ (item : ℕ) (after : List ℕ) (more : IsPermutation waiting (item ∷ after)) where
      abbrev puts : Stage
      puts = record { known = stage.known; places = stage.places; queued = stage.queued; order = stage.order ++ item ∷ [] }

      taken_waits : Contains waiting item
      taken_waits = present_by_times item waiting (omega (arith, times_in-pushed item item after waiting (IsPermutation-sym waiting (item ∷ after) more), times_in-head item item after refl))

      pub taken_in_range : item < length d.needs
      taken_in_range = been_in_range item (waiting_been item taken_waits)

      still_known : (number : ℕ) → IsKnown d stage.order number → IsKnown d (stage.order ++ item ∷ []) number
      still_known number (inl i) = inl i
      still_known number (inr y) = inr (y.0, Contains-append_left stage.order (item ∷ []) y.0 y.1, y.2)

      size : length (stage.order ++ item ∷ []) ≡ length stage.order + 1
      size = length-append stage.order (item ∷ [])

      ready_at : (place : ℕ) → place < length (stage.order ++ item ∷ []) → (place < length stage.order) ⊎ (length stage.order ≤ place) → IsReady d
          (take place (stage.order ++ item ∷ [])) (slice_index (stage.order ++ item ∷ []) place)
      ready_at place lt (inl low) =
          rw (take-append-le place stage.order (item ∷ []) (omega arith), get_or_append_left stage.order (item ∷ []) 0 place low) (h.ready place low)
      ready_at place lt (inr high) =
          let p : place ≡ length stage.order = omega (arith, size) in
          rw (p, take_append stage.order (item ∷ []), get_or-append_seam stage.order item [] 0) (been_ready item (waiting_been item taken_waits))

      pub put_settled : AllSettled d stage → AllSettled d puts
      put_settled settled other lt = go (settled other lt)
        where
          go : IsSettled d stage other → IsSettled d puts other
          go (has_been_ready q) = has_been_ready q
          go (lacks_one low u) = lacks_one low u

      pub put_yielded : AreYielded d [] stage → AreYielded d (yields_of d item) puts
      put_yielded yielded other i number j = elim (Contains-push_cases stage.order item other i) [
        | inl k ↦ elim (yielded other k number j) [ inl known ↦ inl known | inr l ↦ absurd (Contains-nil number l) ]
        | inr e ↦ inr (subst (λ o. Contains (yields_of d o) number) (sym e) j)
      ]

      module _ (settled : AllSettled d stage) (yielded : AreYielded d [] stage) (first : (other : ℕ) → Contains waiting other → allows item other) where
        chosen_at : (place other : ℕ) → place < length (stage.order ++ item ∷ []) → other < length d.needs → (place < length stage.order) ⊎ (length stage.order ≤ place) →
            (Contains (take place (stage.order ++ item ∷ [])) other → ⊥) → IsReady d (take place (stage.order ++ item ∷ [])) other → allows
            (slice_index (stage.order ++ item ∷ []) place) other
        chosen_at place other lt inside (inl low) out all =
            rw (get_or_append_left stage.order (item ∷ []) 0 place low) (h.chosen place other low inside
            (subst (λ l. Contains l other → ⊥) (take-append-le place stage.order (item ∷ []) (omega arith)) out)
            (subst (λ l. IsReady d l other) (take-append-le place stage.order (item ∷ []) (omega arith)) all))
        chosen_at place other lt inside (inr high) out all =
            let p : place ≡ length stage.order = omega (arith, size) in
            let t : take place (stage.order ++ item ∷ []) ≡ stage.order = ap (λ n. take n (stage.order ++ item ∷ [])) p ∙ take_append stage.order (item ∷ []) in
            let been : get_or stage.queued other false ≡ true = ready_been settled yielded other inside (subst (λ l. IsReady d l other) t all) in
            let absent : Contains stage.order other → ⊥ = subst (λ l. Contains l other → ⊥) t out in
            rw (p, get_or-append_seam stage.order item [] 0)
            (first other (present_by_times other waiting (omega (arith, h.times other, times_in-absent other stage.order absent, bit_number _ true been))))

        pub put_keeps : IsSearch d allows puts after
        put_keeps = record {
          width = h.width;
          wide = h.wide;
          marked = h.marked;
          within = h.within;
          passed = h.passed;
          full = h.full;
          times = λ other. omega (
            arith,
            times_in-append other stage.order (item ∷ []),
            times_in-append other (item ∷ []) after,
            times_in-pushed other item after waiting
                (IsPermutation-sym waiting (item ∷ after) more),
            h.times other,
          );
          few = omega (arith, size, length_pushed item after waiting (IsPermutation-sym waiting (item ∷ after) more), h.few);
          knows = λ number k. still_known number (h.knows number k);
          started = h.started;
          ready = λ place lt. ready_at place lt (lower_or_not place (length stage.order));
          chosen = λ place other lt inside out all. chosen_at place other lt inside (lower_or_not place (length stage.order)) out all;
        }

  module _ (stage : Stage) (done : IsDone d allows stage) where
    in_range_at : (item : ℕ) → Contains stage.order item → item < length d.needs
    in_range_at item i = been_in_range stage [] done.search item (ordered_been stage [] done.search item i)

    reached_at : (bound place : ℕ) → place < bound → place < length stage.order → (used : ℕ) → Contains (needs_of d (slice_index stage.order place)) used → Reached d used
    reached_at zero place low lt used i = absurd (omega arith)
    reached_at (suc bound) place low lt used i =
        from (λ j l k other m. reached_at bound j (omega arith) k other m) (done.search.ready place lt used i)
      where
        from : ((j : ℕ) → j < place → j < length stage.order → (other : ℕ) → Contains (needs_of d (slice_index stage.order j)) other → Reached d other) → IsKnown d
            (take place stage.order) used → Reached d used
        from earlier (inl s) = at_start used s
        from earlier (inr y) =
            let j = place_in_take place stage.order y.0 y.1 in
            let k : Contains stage.order y.0 = subst (λ n. Contains stage.order n) j.3 (Contains-get_or stage.order j.0 0 j.2) in
            by_item used y.0 (in_range_at y.0 k) (λ other l. earlier j.0 j.1 j.2 other (subst (λ n. Contains (needs_of d n) other) (sym j.3) l)) y.2

    comes : (item : ℕ) → item < length d.needs → IsReady d stage.order item → Contains stage.order item
    comes item lt all =
        present_by_times item stage.order (omega (arith, done.search.times item, bit_number _ true (ready_been stage [] done.search done.settled done.yielded item lt all)))

    known_reached : (number : ℕ) → Reached d number → IsKnown d stage.order number
    known_reached _ (at_start number i) = inl i
    known_reached _ (by_item number item lt all i) = inr (item, comes item lt (λ used j. known_reached used (all used j)), i)

    reaches : (item : ℕ) → Contains stage.order item → Reaches d item
    reaches item i =
        let p = place_of item stage.order i in
        (in_range_at item i, λ used j. reached_at (suc p.0) p.0 (omega arith) p.1 used (subst (λ n. Contains (needs_of d n) used) (sym p.2) j))

    reached_known : (number : ℕ) → IsKnown d stage.order number → Reached d number
    reached_known number (inl i) = at_start number i
    reached_known number (inr y) = let r = reaches y.0 y.1 in by_item number y.0 r.0 r.1 y.2

    pub is_order_of : IsOrderOf d (record { items = stage.order; known = stage.known })
    is_order_of = record {
      order = record {
        once = distinct_by_times stage.order (λ item. omega (arith, done.search.times item, at_most_one (get_or stage.queued item false)));
        ready = done.search.ready;
        exact = λ item. (reaches item, λ r. comes item r.0 (λ used i. known_reached used (r.1 used i)));
      };
      width = done.search.width;
      known = λ number. (λ k. reached_known number (done.search.knows number k), λ r. known_of stage [] done.search done.yielded number (known_reached number r));
    }

-- a number more is learnt of those that an item yields
pub yielded_less : (d : PlainDependencies) (numbers : List ℕ) (i : ℕ) (before after : Stage) → i < length numbers → after.order ≡ before.order → LearnsOne before.known
    (slice_index numbers i) after.known → AreYielded d (drop i numbers) before → AreYielded d (drop (i + 1) numbers) after
yielded_less d numbers i before after lt order learnt yielded item j number k = go (yielded item (subst (λ l. Contains l item) order j) number k)
  where
    rest : (n : ℕ) (xs : List ℕ) → n < length xs → Contains (drop n xs) number → (slice_index xs n ≡ number) ⊎ Contains (drop (suc n) xs) number
    rest n [] low m = absurd (omega arith)
    rest zero (x ∷ xs) low m = Contains-cons_cases number x xs m
    rest (suc n) (x ∷ xs) low m = rest n xs (omega arith) m

    go : (get_or before.known number false ≡ true) ⊎ Contains (drop i numbers) number → (get_or after.known number false ≡ true) ⊎ Contains (drop (i + 1) numbers) number
    go (inl known) = inl (learnt.kept number known)
    go (inr m) = elim (rest i numbers lt m) [
      | inl e ↦ inl (subst (λ n. get_or after.known n false ≡ true) e learnt.here)
      | inr n ↦ let one : suc i ≡ i + 1 = omega arith in inr (subst (λ k. Contains (drop k numbers) number) one n)
    ]

pub none_left : (xs : List ℕ) (n : ℕ) → length xs ≤ n → drop n xs ≡ []
none_left [] zero le = refl
none_left [] (suc n) le = refl
none_left (x ∷ xs) zero le = absurd (omega arith)
none_left (x ∷ xs) (suc n) le = none_left xs n (omega arith)
