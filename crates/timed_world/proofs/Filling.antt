-- A table of arrivals that is filled along an order of the cells.
use Rattle.std.proofs.Common.{◌≡◌, ◌≢◌, ◌+◌, ◌*◌, ◌<◌, ◌≤◌, ℕ, inl, inr, Some, List, [], ◌∷◌, length, max, take, set, replicate, get_or, slice_get, refl, sym, ap, subst, ◌∙◌, arith}
use Rattle.std.specs.Prelude.{slice_index}
use Rattle.std.specs.List.{flat_map}
use Rattle.std.proofs.lemmas.Bool.{cases_eq, cases_lt}
use Rattle.std.proofs.lemmas.List.{get_or-set_same, get_or-set_other, get_or-replicate, get_or_past, length-set, length-replicate, take_all}
use Rattle.pulse_ids.specs.Lists.{IsIn}
use Rattle.pulse_ids.proofs.CallerLemmas.{IsIn-at, IsIn-taken, contained-IsIn, IsIn-flat_map}
use Rattle.cell_netlist.specs.declared.lines.Cell.{Cell}
use Rattle.cell_netlist.specs.declared.lines.Cell.TheVariants.{La, Fa, Split, Droc}
use Rattle.cell_netlist.specs.declared.lines.Driver.{Driver}
use Rattle.cell_netlist.specs.declared.lines.Driver.TheVariants.{Input, Out, Left, Right, Q, N}
use Rattle.cell_netlist.specs.Netlists.{PlainNetlist, reads, IsDroc}
use Rattle.cell_netlist.specs.Places.{drivers}
use Rattle.dependency_order.proofs.CallerLemmas.{earlier_place, one_place}
use Rattle.cell_orders.specs.CellOrders.{IsCellOrder}
use Rattle.cell_orders.specs.Needs.{passing_at}
use Rattle.cell_orders.proofs.CallerLemmas.{at_below, feeding_drives}
use Rattle.timed_world.specs.ArrivalTables.{place_arrival, first_arrival, table_arrival, cell_arrival, AreCellArrivals, AreUpTo}
use Rattle.timed_world.specs.Bounds.{entry_of}
use Rattle.timed_world.specs.declared.kinds.Kind.TheVariants as kinds
use Rattle.timed_world.proofs.FewNumbers.{few_distinct}
use Rattle.timed_world.specs.Delays.{PlainDelays, AreWithin, delay_of, kind_of}

-- the table is right for the cells that have come
pub record FilledTo (delays : PlainDelays) (net : PlainNetlist) (order : List ℕ) (i : ℕ) (table : List ℕ) : Type 0 where
  pub width : length table ≡ length net.cells
  pub passing : (c : ℕ) (cell : Cell) → IsIn c (take i order) → slice_get net.cells c ≡ Some cell → (IsDroc cell → ⊥)
      → get_or table c 0 ≡ cell_arrival delays net table cell
  pub small : AreUpTo (1000 * (i + 1)) table

pub place_small : (delays : PlainDelays) (table : List ℕ) (most : ℕ) → AreUpTo most table → delays.droc ≤ most → (places : List Driver) → first_arrival delays table places ≤ most
place_small delays table most up low [] = omega arith
place_small delays table most up low (Input id ∷ places) = omega arith
place_small delays table most up low (Out id ∷ places) = up id.number
place_small delays table most up low (Left id ∷ places) = up id.number
place_small delays table most up low (Right id ∷ places) = up id.number
place_small delays table most up low (Q id ∷ places) = low
place_small delays table most up low (N id ∷ places) = low

pub entry_small : (value : ℕ → ℕ) (most : ℕ) (cell : Cell) → ((wire : ℕ) → value wire ≤ most) → entry_of value cell ≤ most
entry_small value most (La a b out) all = let p = all a.number in let q = all b.number in omega arith
entry_small value most (Fa a b out) all = let p = all a.number in let q = all b.number in omega arith
entry_small value most (Split from left right) all = all from.number
entry_small value most (Droc role preload feed q n) all = omega arith

-- cells that read wires of equal values have equal entries
pub entry_same : (value other : ℕ → ℕ) (cell : Cell) → (IsDroc cell → ⊥) → ((wire : ℕ) → IsIn wire (reads cell) → value wire ≡ other wire) → entry_of value cell ≡ entry_of other cell
entry_same value other (La a b out) kind same =
    ap (λ x. max x (value b.number)) (same a.number (inl refl)) ∙ ap (λ y. max (other a.number) y) (same b.number (inr (inl refl)))
entry_same value other (Fa a b out) kind same =
    ap (λ x. max x (value b.number)) (same a.number (inl refl)) ∙ ap (λ y. max (other a.number) y) (same b.number (inr (inl refl)))
entry_same value other (Split from left right) kind same = same from.number (inl refl)
entry_same value other (Droc role preload feed q n) kind same = refl

-- another value for a cell leaves the arrival at a place that is none of its outputs
place_same : (delays : PlainDelays) (table : List ℕ) (c value : ℕ) (place : Driver) → (IsIn c (passing_at place) → ⊥)
    → place_arrival delays table place ≡ place_arrival delays (set table c value) place
place_same delays table c value (Input id) never = refl
place_same delays table c value (Out id) never = sym (get_or-set_other table c id.number value 0 (λ e. never (inl e)))
place_same delays table c value (Left id) never = sym (get_or-set_other table c id.number value 0 (λ e. never (inl e)))
place_same delays table c value (Right id) never = sym (get_or-set_other table c id.number value 0 (λ e. never (inl e)))
place_same delays table c value (Q id) never = refl
place_same delays table c value (N id) never = refl

first_same : (delays : PlainDelays) (table : List ℕ) (c value : ℕ) (places : List Driver) → (IsIn c (flat_map passing_at places) → ⊥)
    → first_arrival delays table places ≡ first_arrival delays (set table c value) places
first_same delays table c value [] never = refl
first_same delays table c value (place ∷ places) never = place_same delays table c value place (λ i. never (IsIn-flat_map passing_at c place (place ∷ places) (inl refl) i))

module _ (delays : PlainDelays) (within : AreWithin delays) (net : PlainNetlist) (order : List ℕ) (h : IsCellOrder net order) where
  pub filled_begun : (table : List ℕ) → table ≡ replicate (length net.cells) 0 → FilledTo delays net order 0 table
  filled_begun table e = record {
    width = ap length e ∙ length-replicate {A = ℕ} (length net.cells) 0;
    passing = λ c cell i at kind. absurd i;
    small = λ c. let z = zero_at c in omega arith;
  }
    where
      zero_at : (c : ℕ) → get_or table c 0 ≡ 0
      zero_at c = ap (λ (l : List ℕ). get_or l c 0) e ∙ elim (cases_lt c (length net.cells)) [
        | inl lt ↦ get_or-replicate {A = ℕ} (length net.cells) c 0 0 lt
        | inr ge ↦ get_or_past (replicate (length net.cells) 0) c 0 (omega (arith, length-replicate {A = ℕ} (length net.cells) 0))
      ]

  -- the items are cells, and no more than there are
  pub item_at_low : (i : ℕ) → i < length order → slice_index order i < length net.cells
  item_at_low i low = (h.cells (slice_index order i)).0 (IsIn-at order i 0 low)

  pub items_few : length order ≤ length net.cells
  items_few = few_distinct order (length net.cells) h.once (λ c. (h.cells c).0)

  module _ (i : ℕ) (low : i < length order) (cell : Cell) (at : slice_get net.cells (slice_index order i) ≡ Some cell)
      (table : List ℕ) (r : FilledTo delays net order i table) where
    abbrev c : ℕ
    c = slice_index order i

    abbrev value : ℕ
    value = cell_arrival delays net table cell

    -- the item did not come before
    not_before : (j : ℕ) → j ≤ i → IsIn c (take j order) → ⊥
    not_before j le k =
        let p = earlier_place j order c (contained-IsIn (take j order) c k) in
        let same = one_place order p.0 i h.once p.2 low p.3 in
        let lt = p.1 in omega arith

    -- no cell up to now reads what it drives
    unaffected : (j : ℕ) → j ≤ i → (its : Cell) → slice_get net.cells (slice_index order j) ≡ Some its → (IsDroc its → ⊥)
        → cell_arrival delays net table its ≡ cell_arrival delays net (set table c value) its
    unaffected j le its place kind = ap (λ x. x + delay_of delays (kind_of its))
        (entry_same (table_arrival delays net table) (table_arrival delays net (set table c value)) its kind
        (λ wire i. first_same delays table c value (drivers net wire)
        (λ fed. not_before j le (h.after j (omega arith) c
        (record { reader = record { cell = its; at = place; kind = kind }; wire = wire; read = i; drives = feeding_drives net c wire fed })))))

    c_low : c < length table
    c_low = omega (arith, r.width, item_at_low i low)

    here : (d : ℕ) → d ≡ c → get_or (set table c value) d 0 ≡ value
    here d e = ap (λ k. get_or (set table c value) k 0) e ∙ get_or-set_same table c value 0 c_low

    there : (d : ℕ) → d ≢ c → get_or (set table c value) d 0 ≡ get_or table d 0
    there d ne = get_or-set_other table c d value 0 ne

    value_small : value ≤ 1000 * (i + 1 + 1)
    value_small =
        let droc = (within kinds.Droc).1 in
        let its = (within (kind_of cell)).1 in
        let entry = entry_small (table_arrival delays net table) (1000 * (i + 1)) cell
        (λ wire. place_small delays table (1000 * (i + 1)) r.small (omega arith) (drivers net wire)) in omega arith

    right : (d : ℕ) (its : Cell) → IsIn d (take (i + 1) order) → slice_get net.cells d ≡ Some its → (IsDroc its → ⊥)
        → get_or (set table c value) d 0 ≡ cell_arrival delays net (set table c value) its
    right d its k place kind = elim (cases_eq d c) [
      | inl e ↦
          let there_too : slice_get net.cells c ≡ Some its = subst (λ x. slice_get net.cells x ≡ Some its) e place in
          let same : cell ≡ its = cc in
          here d e ∙ (ap (cell_arrival delays net table) same ∙ unaffected i (omega arith) its there_too kind)
      | inr ne ↦ elim (IsIn-taken d order i 0 low k) [
        | inl earlier ↦
            let p = earlier_place i order d (contained-IsIn (take i order) d earlier) in
            let lt = p.1 in
            there d ne ∙ (r.passing d its earlier place kind
            ∙ unaffected p.0 (omega arith) its (subst (λ x. slice_get net.cells x ≡ Some its) (sym p.3) place) kind)
        | inr this ↦ absurd (ne (sym this))
      ]
    ]

    pub filled_more : FilledTo delays net order (i + 1) (set table c value)
    filled_more = record {
      width = length-set table c value ∙ r.width;
      passing = right;
      small = λ d. elim (cases_eq d c) [
        | inl e ↦ omega (arith, here d e, value_small)
        | inr ne ↦ omega (arith, there d ne, r.small d)
      ];
    }

  pub filled_done : (n : ℕ) → n ≡ length order → (table : List ℕ) → FilledTo delays net order n table → AreCellArrivals delays net table
  filled_done n e table r = record {
    width = r.width;
    passing = λ c cell at kind. r.passing c cell
        (subst (λ l. IsIn c l) (sym (take_all n order (omega arith))) ((h.cells c).1 (at_below net c cell at))) at kind;
  }
