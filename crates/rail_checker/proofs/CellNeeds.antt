-- The grounded wires are those that the cells reach.
use Rattle.std.proofs.Common.{◌≡◌, ℕ, zero, suc, ◌+◌, ◌<◌, ◌≤◌, ◌⊎◌, inl, inr, List, [], ◌∷◌, ◌++◌, length, map, get_or, Option, Some, None, slice_get, All, refl, sym, ap, subst, ◌∙◌, arith}
use Rattle.std.proofs.lemmas.List.{length-map}
use Rattle.std.proofs.lemmas.List.Sums.{sum_by-le}
use Rattle.pulse_ids.specs.Ids.{CellId, WireId}
use Rattle.pulse_ids.specs.Lists.{IsIn}
use Rattle.pulse_ids.proofs.CallerLemmas.{IsIn-at, IsIn-place, place_of, IsIn-map, IsIn-from_map, IsIn-contained, contained-IsIn}
use Rattle.cell_netlist.specs.declared.lines.Cell.{Cell}
use Rattle.cell_netlist.specs.declared.lines.Cell.TheVariants.{La, Fa, Split, Droc}
use Rattle.cell_netlist.specs.Netlists.{PlainNetlist, wire_of, used, outs, reads, number_of_wires, IsDroc, Grounded, of_rail, of_droc, of_gate}
use Rattle.cell_netlist.proofs.CallerLemmas.{named_below}
use Rattle.dependency_order.specs.Dependencies.{PlainDependencies, AreBelow, AreInRange, StaysSmall, first_items, with_item, needs_of, yields_of}
use Rattle.dependency_order.specs.Orders.{Reached, at_start, by_item}
use Rattle.dependency_order.proofs.CallerLemmas.{next_needs_fit, next_yields_fit, next_stays_small, next_is_first, all_items}
use Rattle.rail_checker.specs.DrivingCells.{cell_of, cells_of, HoldsDrivers}
use Rattle.rail_checker.specs.Needs.{needs_of_cell, dependencies_of}
use Rattle.rail_checker.proofs.DriverTable.{cell_among}

-- the lists of the cell at a place
pub lists_at : (cells : List Cell) (i : ℕ) (cell : Cell) → slice_get cells i ≡ Some cell
    → (get_or (map needs_of_cell cells) i [] ≡ needs_of_cell cell) × (get_or (map outs cells) i [] ≡ outs cell)
lists_at [] i cell e = absurd cc
lists_at (c ∷ cells) zero cell e = let s : c ≡ cell = cc in (ap needs_of_cell s, ap outs s)
lists_at (c ∷ cells) (suc i) cell e = lists_at cells i cell e

-- there is a cell at each place
pub cell_at : (cells : List Cell) (i : ℕ) → i < length cells → (cell : Cell) × (slice_get cells i ≡ Some cell)
cell_at [] i lt = absurd (omega arith)
cell_at (c ∷ cells) zero lt = (c, refl)
cell_at (c ∷ cells) (suc i) lt = cell_at cells i (omega arith)

place_within : (cells : List Cell) (i : ℕ) (cell : Cell) → slice_get cells i ≡ Some cell → i < length cells
place_within [] i cell e = absurd cc
place_within (c ∷ cells) zero cell e = omega arith
place_within (c ∷ cells) (suc i) cell e = let r = place_within cells i cell e in omega arith

needs_none : (cell : Cell) → IsDroc cell → needs_of_cell cell ≡ []
needs_none (La a b out) h = absurd h
needs_none (Fa a b out) h = absurd h
needs_none (Split from left right) h = absurd h
needs_none (Droc role preload feed q n) h = refl

needs_reads : (cell : Cell) → (IsDroc cell → ⊥) → needs_of_cell cell ≡ reads cell
needs_reads (La a b out) h = refl
needs_reads (Fa a b out) h = refl
needs_reads (Split from left right) h = refl
needs_reads (Droc role preload feed q n) h = absurd (h tt)

pub droc_or_not : (cell : Cell) → IsDroc cell ⊎ (IsDroc cell → ⊥)
droc_or_not (La a b out) = inr (λ h. h)
droc_or_not (Fa a b out) = inr (λ h. h)
droc_or_not (Split from left right) = inr (λ h. h)
droc_or_not (Droc role preload feed q n) = inl tt

need_read : (cell : Cell) (wire : ℕ) → IsIn wire (needs_of_cell cell) → IsIn wire (reads cell)
need_read (La a b out) wire h = h
need_read (Fa a b out) wire h = h
need_read (Split from left right) wire h = h
need_read (Droc role preload feed q n) wire h = absurd h

few_needs : (cell : Cell) → length (needs_of_cell cell) ≤ 2
few_needs (La a b out) = omega arith
few_needs (Fa a b out) = omega arith
few_needs (Split from left right) = omega arith
few_needs (Droc role preload feed q n) = omega arith

few_used : (q n : Option WireId) → length (used q ++ used n) ≤ 2
few_used None None = omega arith
few_used None (Some n) = omega arith
few_used (Some q) None = omega arith
few_used (Some q) (Some n) = omega arith

few_outs : (cell : Cell) → length (outs cell) ≤ 2
few_outs (La a b out) = omega arith
few_outs (Fa a b out) = omega arith
few_outs (Split from left right) = omega arith
few_outs (Droc role preload feed q n) = few_used q n

-- a property of the lists of all cells
all_lists : (f : Cell → List ℕ) (P : List ℕ → Type 0) (cells : List Cell) → ((cell : Cell) → IsIn cell cells → P (f cell)) → All P (map f cells)
all_lists f P [] each = λ k d lt. absurd (omega arith)
all_lists f P (c ∷ cells) each = λ k d lt. go (all_lists f P cells (λ cell i. each cell (inr i))) k d lt
  where
    go : All P (map f cells) → (k : ℕ) (d : List ℕ) → k < length (map f (c ∷ cells)) → P (get_or (map f (c ∷ cells)) k d)
    go rest zero d lt = each c (inl refl)
    go rest (suc k) d lt = rest k d (omega arith)

pub all_in : (P : ℕ → Type 0) (xs : List ℕ) → ((x : ℕ) → IsIn x xs → P x) → All P xs
all_in P xs each = λ k d lt. each (get_or xs k d) (IsIn-at xs k d lt)

pub starts_below : (net : PlainNetlist) → AreBelow (number_of_wires net) (map wire_of net.input_rails)
starts_below net = all_in (λ n. n < number_of_wires net) (map wire_of net.input_rails) (λ wire i.
    let r = IsIn-from_map wire_of wire net.input_rails i in subst (λ w. w < number_of_wires net) r.2 ((named_below net).of_input r.0 r.1))

module _ (net : PlainNetlist) (drivers : List CellId) (holds : HoldsDrivers net drivers) where
  abbrev cells : List Cell
  cells = cells_of net drivers

  among : (cell : Cell) → IsIn cell cells → IsIn cell net.cells
  among = cell_among net drivers holds

  pub long : length cells ≡ length drivers
  long = length-map drivers (cell_of net)

  -- what the cells reach is grounded
  pub grounded_of : (wire : ℕ) → Reached (dependencies_of net drivers) wire → Grounded net wire
  grounded_of _ (at_start wire i) =
      let r = IsIn-from_map wire_of wire net.input_rails (IsIn-contained (map wire_of net.input_rails) wire i) in of_rail wire r.0 r.1 r.2
  grounded_of _ (by_item wire item lt all i) =
      let at = cell_at cells item (omega (arith, lt, length-map cells needs_of_cell)) in
      let lists = lists_at cells item at.0 at.1 in
      gate at.0 (IsIn-place at.0 cells item at.1) (subst (λ l. IsIn wire l) lists.1 (IsIn-contained (yields_of (dependencies_of net drivers) item) wire i))
      (λ used j. grounded_of used (all used (contained-IsIn (needs_of (dependencies_of net drivers) item) used (subst (λ l. IsIn used l) (sym lists.0) j))))
    where
      gate : (cell : Cell) → IsIn cell cells → IsIn wire (outs cell) → ((used : ℕ) → IsIn used (needs_of_cell cell) → Grounded net used) → Grounded net wire
      gate cell i out grounded = elim (droc_or_not cell) [
        | inl droc ↦ of_droc wire cell (among cell i) droc out
        | inr other ↦ of_gate wire cell (among cell i) other out (λ port j. grounded port (subst (λ l. IsIn port l) (sym (needs_reads cell other)) j))
      ]

  -- what is grounded the cells reach
  pub reached_of : (wire : ℕ) → Grounded net wire → Reached (dependencies_of net drivers) wire
  reached_of _ (of_rail wire rail i e) =
      at_start wire (contained-IsIn (map wire_of net.input_rails) wire (subst (λ w. IsIn w (map wire_of net.input_rails)) e (IsIn-map wire_of rail net.input_rails i)))
  reached_of _ (of_droc wire cell i droc o) =
      let at = place_of cell cells (holds.all cell i wire o) in
      let lists = lists_at cells at.0 cell at.1 in
      by_item wire at.0 (omega (arith, place_within cells at.0 cell at.1, length-map cells needs_of_cell))
      (λ used j. absurd (subst (λ l. IsIn used l) (lists.0 ∙ needs_none cell droc) (IsIn-contained (needs_of (dependencies_of net drivers) at.0) used j)))
      (contained-IsIn (yields_of (dependencies_of net drivers) at.0) wire (subst (λ l. IsIn wire l) (sym lists.1) o))
  reached_of _ (of_gate wire cell i other o all) =
      let at = place_of cell cells (holds.all cell i wire o) in
      let lists = lists_at cells at.0 cell at.1 in
      by_item wire at.0 (omega (arith, place_within cells at.0 cell at.1, length-map cells needs_of_cell))
      (λ used j. reached_of used (all used (subst (λ l. IsIn used l) (lists.0 ∙ needs_reads cell other) (IsIn-contained (needs_of (dependencies_of net drivers) at.0) used j))))
      (contained-IsIn (yields_of (dependencies_of net drivers) at.0) wire (subst (λ l. IsIn wire l) (sym lists.1) o))

  pub in_range : AreInRange (dependencies_of net drivers)
  in_range = record {
    paired = length-map cells outs ∙ sym (length-map cells needs_of_cell);
    few_items = omega (arith, holds.few, long, length-map cells needs_of_cell);
    few_needs = let total = sum_by-le length 2 (map needs_of_cell cells) (all_lists needs_of_cell (λ l. length l ≤ 2) cells (λ cell i. few_needs cell)) in
        omega (arith, holds.few, long, length-map cells needs_of_cell);
    few_yields = let total = sum_by-le length 2 (map outs cells) (all_lists outs (λ l. length l ≤ 2) cells (λ cell i. few_outs cell)) in omega (arith, holds.few, long, length-map cells outs);
    starts_fit = starts_below net;
    needs_fit = all_lists needs_of_cell (AreBelow (number_of_wires net)) cells (λ cell i.
        all_in (λ n. n < number_of_wires net) (needs_of_cell cell) (λ wire o. (named_below net).of_reads cell (among cell i) wire (need_read cell wire o)));
    yields_fit = all_lists outs (AreBelow (number_of_wires net)) cells (λ cell i. all_in (λ n. n < number_of_wires net) (outs cell) (λ wire o. (named_below net).of_outs cell (among cell i) wire o));
  }

  -- a cell that is added as the next item
  module _ (i : ℕ) (cell : Cell) (at : slice_get cells i ≡ Some cell) (dependencies : PlainDependencies)
      (begun : dependencies ≡ first_items (dependencies_of net drivers) i) (needs yields : List ℕ) (needs_are : needs ≡ needs_of_cell cell) (yields_are : yields ≡ outs cell) where
    low : i < length (map needs_of_cell cells)
    low = omega (arith, place_within cells i cell at, length-map cells needs_of_cell)

    its_needs : needs_of (dependencies_of net drivers) i ≡ needs
    its_needs = (lists_at cells i cell at).0 ∙ sym needs_are

    its_yields : yields_of (dependencies_of net drivers) i ≡ yields
    its_yields = (lists_at cells i cell at).1 ∙ sym yields_are

    count_is : dependencies.count ≡ number_of_wires net
    count_is = ap (λ (d : PlainDependencies). d.count) begun

    pub added_needs_fit : AreBelow dependencies.count needs
    added_needs_fit = rw count_is (subst (λ l. AreBelow (number_of_wires net) l) its_needs (next_needs_fit (dependencies_of net drivers) in_range i low))

    pub added_yields_fit : AreBelow dependencies.count yields
    added_yields_fit = rw count_is (subst (λ l. AreBelow (number_of_wires net) l) its_yields (next_yields_fit (dependencies_of net drivers) in_range i low))

    pub added_stays_small : StaysSmall dependencies needs yields
    added_stays_small = subst (λ (d : PlainDependencies). StaysSmall d needs yields) (sym begun)
        (subst (λ l. StaysSmall (first_items (dependencies_of net drivers) i) l yields) its_needs
        (subst (λ l. StaysSmall (first_items (dependencies_of net drivers) i) (needs_of (dependencies_of net drivers) i) l) its_yields
        (next_stays_small (dependencies_of net drivers) in_range i low)))

    pub added_is_first : with_item dependencies needs yields ≡ first_items (dependencies_of net drivers) (i + 1)
    added_is_first = ap (λ (d : PlainDependencies). with_item d needs yields) begun ∙ ap (λ l. with_item (first_items (dependencies_of net drivers) i) l yields) (sym its_needs)
        ∙ ap (λ l. with_item (first_items (dependencies_of net drivers) i) (needs_of (dependencies_of net drivers) i) l) (sym its_yields) ∙ next_is_first (dependencies_of net drivers) in_range i low

  pub all_added : (n : ℕ) → n ≡ length drivers → first_items (dependencies_of net drivers) n ≡ dependencies_of net drivers
  all_added n e = ap (λ k. first_items (dependencies_of net drivers) k) (e ∙ sym long ∙ sym (length-map cells needs_of_cell)) ∙ all_items (dependencies_of net drivers) in_range
