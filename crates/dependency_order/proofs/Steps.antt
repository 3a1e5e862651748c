-- What one visit of an item keeps and settles.
use Rattle.std.proofs.Common.{◌≡◌, ◌≢◌, ℕ, ◌+◌, ◌-◌, ◌≤◌, ◌<◌, ◌⊎◌, inl, inr, List, ◌∷◌, length, get_or, set, Bool, true, false, if◌then◌else◌, refl, sym, ◌∙◌, ap, subst, arith, IsPermutation}
use Rattle.std.specs.Prelude.{slice_index}
use Rattle.std.proofs.lemmas.List.{get_or-set_same, get_or-set_other, length-set}
use Rattle.dependency_order.specs.Dependencies.{PlainDependencies, needs_of}
use Rattle.dependency_order.specs.Readers.{Links}
use Rattle.dependency_order.specs.Searches.{times_in, Stage, IsReached, Advance, skipped, lacks, readies, IsSettled, has_been_ready, lacks_one, AllSettled, IsSearch, Steps, IsReader}
use Rattle.dependency_order.proofs.Members.{same_or_not, lower_or_not, times_in-head, times_in-other, times_in-pushed, length_pushed}
use Rattle.dependency_order.proofs.Links.{Linked-none, Linked-step}
use Rattle.dependency_order.proofs.Bits.{bit_number, still_set, set_before, one_set_more}

module _ (d : PlainDependencies) (allows : ℕ → ℕ → Type 0) (stage : Stage) (waiting : List ℕ) (h : IsSearch d allows stage waiting) (item : ℕ) (lt : item < length d.needs) where
  -- the item is at this place, and these items have been ready
  abbrev goes : ℕ → List Bool → Stage
  goes place queued = record { known = stage.known; places = set stage.places item place; queued = queued; order = stage.order }

  module _ (place : ℕ) (unqueued : get_or stage.queued item false ≡ false) (r : IsReached (needs_of d item) stage.known (slice_index stage.places item) place) where
    here : slice_index (set stage.places item place) item ≡ place
    here = get_or-set_same stage.places item place 0 (omega (arith, h.wide))

    there : (other : ℕ) → other ≢ item → slice_index (set stage.places item place) other ≡ slice_index stage.places other
    there other ne = get_or-set_other stage.places item other place 0 ne

    within : (other : ℕ) → other < length d.needs → (other ≡ item) ⊎ (other ≢ item) → slice_index (set stage.places item place) other ≤ length (needs_of d other)
    within other l (inl e) = rw e (omega (arith, here, r.high))
    within other l (inr ne) = omega (arith, there other ne, h.within other l)

    reached_passed : (p : ℕ) → p < place → get_or stage.known (slice_index (needs_of d item) p) false ≡ true
    reached_passed p low = elim (lower_or_not p (slice_index stage.places item)) [
      | inl l ↦ h.passed item lt p l
      | inr l ↦ r.passed p l low
    ]

    passed : (other : ℕ) → other < length d.needs → (other ≡ item) ⊎ (other ≢ item) → (p : ℕ) → p < slice_index (set stage.places item place) other → get_or stage.known
        (slice_index (needs_of d other) p) false ≡ true
    passed other l (inl e) p low =
        rw e (reached_passed p (subst (λ n. p < n) (ap (λ o. slice_index (set stage.places item place) o) e ∙ here) low))
    passed other l (inr ne) p low = h.passed other l p (subst (λ n. p < n) (there other ne) low)

    full_before : (other : ℕ) → get_or stage.queued other false ≡ true → (other ≡ item) ⊎ (other ≢ item) → slice_index (set stage.places item place) other ≡ length (needs_of d other)
    full_before other q (inl e) =
        let t : get_or stage.queued item false ≡ true = sym (ap (λ o. get_or stage.queued o false) e) ∙ q in absurd cc
    full_before other q (inr ne) = there other ne ∙ h.full other q

    waits_keeps : IsSearch d allows (goes place stage.queued) waiting
    waits_keeps = record {
      width = h.width;
      wide = length-set stage.places item place ∙ h.wide;
      marked = h.marked;
      within = λ other l. within other l (same_or_not other item);
      passed = λ other l. passed other l (same_or_not other item);
      full = λ other q. full_before other q (same_or_not other item);
      times = h.times;
      few = h.few;
      knows = h.knows;
      started = h.started;
      ready = h.ready;
      chosen = h.chosen;
    }

    others_at : (queued : List Bool) → ((other : ℕ) → get_or stage.queued other false ≡ true → get_or queued other false ≡ true) → (other : ℕ) → other ≢ item
        → IsSettled d stage other → IsSettled d (goes place queued) other
    others_at queued kept other ne (has_been_ready q) = has_been_ready (kept other q)
    others_at queued kept other ne (lacks_one low u) =
        lacks_one (omega (arith, there other ne, low)) (ap (λ p. get_or stage.known (slice_index (needs_of d other) p) false) (there other ne) ∙ u)

    module _ (all : place ≡ length (needs_of d item)) (after : List ℕ) (more : IsPermutation (item ∷ waiting) after) where
      inside : item < length stage.queued
      inside = omega (arith, h.marked)

      now_set : get_or (set stage.queued item true) item false ≡ true
      now_set = get_or-set_same stage.queued item true false inside

      full_now : (other : ℕ) → get_or (set stage.queued item true) other false ≡ true → (other ≡ item) ⊎ (other ≢ item) → slice_index
          (set stage.places item place) other ≡ length (needs_of d other)
      full_now other q (inl e) = rw e (here ∙ all)
      full_now other q (inr ne) = elim (set_before stage.queued item other q) [
        | inl e ↦ absurd (ne e)
        | inr t ↦ there other ne ∙ h.full other t
      ]

      times_now : (other : ℕ) → (other ≡ item) ⊎ (other ≢ item) → times_in other stage.order + times_in other after ≡ (if get_or (set stage.queued item true) other false then 1 else 0)
      times_now other (inl e) =
          rw e (omega (arith, times_in-pushed item item waiting after more, times_in-head item item waiting refl, h.times item, bit_number _ false unqueued, bit_number _ true now_set))
      times_now other (inr ne) =
          omega (
            arith,
            times_in-pushed other item waiting after more,
            times_in-other other item waiting (λ e. ne (sym e)),
            h.times other,
            bit_number _ _
                (get_or-set_other stage.queued item other true false ne),
          )

      ready_keeps : IsSearch d allows (goes place (set stage.queued item true)) after
      ready_keeps = record {
        width = h.width;
        wide = length-set stage.places item place ∙ h.wide;
        marked = length-set stage.queued item true ∙ h.marked;
        within = λ other l. within other l (same_or_not other item);
        passed = λ other l. passed other l (same_or_not other item);
        full = λ other q. full_now other q (same_or_not other item);
        times = λ other. times_now other (same_or_not other item);
        few = omega (arith, h.few, length_pushed item waiting after more, one_set_more stage.queued item inside unqueued);
        knows = h.knows;
        started = h.started;
        ready = h.ready;
        chosen = h.chosen;
      }

  steps_of : (after : Stage) (now : List ℕ) → IsSearch d allows after now → after.known ≡ stage.known → after.order ≡ stage.order → IsSettled d after item →
      ((other : ℕ) → other ≢ item → IsSettled d stage other → IsSettled d after other) → Steps d allows stage after now × IsSettled d after item
  steps_of after now search known order settled others = (
    record {
      search = search;
      known = known;
      order = order;
      others = λ other s. elim (same_or_not other item) [ inl e ↦ subst (λ o. IsSettled d after o) (sym e) settled | inr ne ↦ others other ne s ];
    },
    settled,
  )

  abbrev Visited : Stage → List ℕ → Type 0
  Visited after now = Steps d allows stage after now × IsSettled d after item

  pub unready : (after : Stage) (answer : Bool) → answer ≡ false → Advance (needs_of d item) item stage after answer → Visited after waiting
  unready after answer un (skipped _ a q e) =
      subst (λ s. Visited s waiting) (sym e) (steps_of stage waiting h refl refl (has_been_ready q) (λ other ne s. s))
  unready after answer un (lacks _ a place q r low e) =
      subst (λ s. Visited s waiting) (sym e) (steps_of (goes place stage.queued) waiting (waits_keeps place q r) refl refl
      (lacks_one (omega (arith, here place q r, low)) (ap (λ p. get_or stage.known (slice_index (needs_of d item) p) false) (here place q r) ∙ r.stopped low))
      (λ other ne s. others_at place q r stage.queued (λ o t. t) other ne s))
  unready after answer un (readies _ a place q r all e) = absurd cc

  pub readied : (after : Stage) (answer : Bool) (now : List ℕ) → answer ≡ true → Advance (needs_of d item) item stage after answer → IsPermutation (item ∷ waiting) now → Visited after now
  readied after answer now yes_ (skipped _ a q e) more = absurd cc
  readied after answer now yes_ (lacks _ a place q r low e) more = absurd cc
  readied after answer now yes_ (readies _ a place q r all e) more =
      subst (λ s. Visited s now) (sym e) (steps_of (goes place (set stage.queued item true)) now (ready_keeps place q r all now more) refl refl
      (has_been_ready (now_set place q r all now more)) (λ other ne s. others_at place q r (set stage.queued item true)
      (λ o t. still_set stage.queued item o (inside place q r all now more) t) other ne s))

module _ (d : PlainDependencies) (allows : ℕ → ℕ → Type 0) where
  pub steps_none : (stage : Stage) (waiting : List ℕ) → IsSearch d allows stage waiting → Steps d allows stage stage waiting
  steps_none stage waiting h = record { search = h; known = refl; order = refl; others = λ other s. s }

  pub steps_then : (a b c : Stage) (one two : List ℕ) → Steps d allows a b one → Steps d allows b c two → Steps d allows a c two
  steps_then a b c one two s t = record {
    search = t.search;
    known = t.known ∙ s.known;
    order = t.order ∙ s.order;
    others = λ other h. t.others other (s.others other h);
  }

  pub settled_more : (before after : Stage) (waiting : List ℕ) (item : ℕ) → Steps d allows before after waiting → IsSettled d after item →
      ((other : ℕ) → other < item → IsSettled d before other) → (other : ℕ) → other < item + 1 → IsSettled d after other
  settled_more before after waiting item steps now lower other lt = elim (same_or_not other item) [
    | inl e ↦ subst (λ o. IsSettled d after o) (sym e) now
    | inr ne ↦ steps.others other (lower other (omega arith))
  ]

-- each reader that was left is settled now, or is left
pub left_after : (d : PlainDependencies) (allows : ℕ → ℕ → Type 0) (links : Links) (before after : Stage) (waiting : List ℕ) (head next item : ℕ)
    → Steps d allows before after waiting → IsSettled d after item → item ≡ slice_index links.owners (head - 1) → next ≡ slice_index links.nexts (head - 1) →
    ((other : ℕ) → other < length d.needs → IsSettled d before other ⊎ IsReader links head other) → (other : ℕ) → other < length d.needs → IsSettled d after other ⊎ IsReader links next other
left_after d allows links before after waiting head next item t settled eq en left other lt = elim (left other lt) [
  | inl h ↦ inl (t.others other h)
  | inr l ↦ elim (Linked-step links.owners links.nexts head other l) [
    | inl e ↦ inl (subst (λ o. IsSettled d after o) (eq ∙ e) settled)
    | inr rest ↦ inr (subst (λ h. IsReader links h other) (sym en) rest)
  ]
]

pub no_reader_left : (d : PlainDependencies) (links : Links) (stage : Stage) (head : ℕ) → head ≡ 0 →
    ((other : ℕ) → other < length d.needs → IsSettled d stage other ⊎ IsReader links head other) → AllSettled d stage
no_reader_left d links stage head z left other lt = elim (left other lt) [
  | inl s ↦ s
  | inr l ↦ absurd (Linked-none links.owners links.nexts head other z l)
]
