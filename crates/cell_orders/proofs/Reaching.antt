-- In a sound netlist every cell comes after those that it reads.
use Rattle.std.proofs.Common.{◌≡◌, ◌+◌, ◌<◌, ◌≤◌, ℕ, zero, suc, inl, inr, Some, List, [], ◌∷◌, length, map, get_or, slice_get, Contains, refl, sym, ap, subst, ◌∙◌, arith}
use Rattle.std.specs.List.{flat_map}
use Rattle.std.proofs.lemmas.List.{length-map, length-append, get_or-map}
use Rattle.std.proofs.lemmas.List.Elements.{All-map}
use Rattle.std.proofs.lemmas.List.Sums.{sum_by-le}
use Rattle.std.proofs.lemmas.Option.{get_or_from_slice_get}
use Rattle.pulse_ids.specs.Lists.{IsIn, upto}
use Rattle.pulse_ids.proofs.CallerLemmas.{IsIn-at, IsIn-place, IsIn-append, IsIn-left, IsIn-right, IsIn-map, IsIn-flat_map, IsIn-contained, contained-IsIn, place_of}
use Rattle.pulse_ids.proofs.CallerLemmasOnCounts.{occurrences-append, IsIn-occurrences, length-upto, slice_get-upto}
use Rattle.cell_netlist.specs.declared.lines.Rail.{Rail}
use Rattle.cell_netlist.specs.declared.lines.Cell.{Cell}
use Rattle.cell_netlist.specs.declared.lines.Cell.TheVariants.{La, Fa, Split, Droc}
use Rattle.cell_netlist.specs.Netlists.{PlainNetlist, wire_of, outs, reads, most_lines, IsDroc, Grounded, of_rail, of_droc, of_gate}
use Rattle.cell_netlist.specs.declared.lines.Driver.{Driver}
use Rattle.cell_netlist.specs.declared.lines.Driver.TheVariants.{Input, Out, Left, Right, Q, N}
use Rattle.cell_netlist.specs.OneReader.{PlacesAreCounted}
use Rattle.cell_netlist.specs.Places.{drivers}
use Rattle.cell_netlist.specs.Sound.{IsSound}
use Rattle.cell_netlist.proofs.CallerLemmas.{driven_once, driving_cell-is}
use Rattle.cell_netlist.proofs.CallerLemmasOnDrivers.{read-grounded}
use Rattle.dependency_order.specs.Dependencies.{PlainDependencies, AreBelow, AreInRange, StaysSmall, first_items, with_item, needs_of, yields_of}
use Rattle.dependency_order.specs.Orders.{Reached, by_item, IsOrder}
use Rattle.dependency_order.proofs.CallerLemmas.{next_needs_fit, next_yields_fit, next_stays_small, next_is_first, all_items, all_come}
use Rattle.cell_orders.specs.PassingCells.{Drives}
use Rattle.cell_orders.specs.Needs.{passing_at, feeding, needs_of_cell, dependencies_of}
use Rattle.cell_orders.proofs.Feeding.{same_cell, passing_below, at_below, feeding_drives}

-- there is a cell at each place
pub cell_at : (cells : List Cell) (i : ℕ) → i < length cells → (cell : Cell) × (slice_get cells i ≡ Some cell)
cell_at [] i lt = absurd (omega arith)
cell_at (c ∷ cells) zero lt = (c, refl)
cell_at (c ∷ cells) (suc i) lt = cell_at cells i (omega arith)

mapped_at : {Y : Type 0} (f : Cell → Y) (d : Y) (cells : List Cell) (i : ℕ) (cell : Cell) → slice_get cells i ≡ Some cell → get_or (map f cells) i d ≡ f cell
mapped_at f d [] i cell e = absurd cc
mapped_at f d (c ∷ cells) zero cell e = let s : c ≡ cell = cc in ap f s
mapped_at f d (c ∷ cells) (suc i) cell e = mapped_at f d cells i cell e

-- what a cell needs drives one of the wires that it reads
pub need_from : (net : PlainNetlist) (cell : Cell) (b : ℕ) → IsIn b (needs_of_cell net cell) → (wire : ℕ) × IsIn wire (reads cell) × IsIn b (feeding net wire)
need_from net (La a b out) d i = elim (IsIn-append d (feeding net a.number) (feeding net b.number) i) [
  | inl h ↦ (a.number, inl refl, h)
  | inr h ↦ (b.number, inr (inl refl), h)
]
need_from net (Fa a b out) d i = elim (IsIn-append d (feeding net a.number) (feeding net b.number) i) [
  | inl h ↦ (a.number, inl refl, h)
  | inr h ↦ (b.number, inr (inl refl), h)
]
need_from net (Split from left right) d i = (from.number, inl refl, i)
need_from net (Droc role preload feed q n) d i = absurd i

-- what drives a wire that an LA, FA or splitter reads is one of its needs
pub read_needed : (net : PlainNetlist) (cell : Cell) (wire b : ℕ) → (IsDroc cell → ⊥) → IsIn wire (reads cell) → IsIn b (feeding net wire) → IsIn b (needs_of_cell net cell)
read_needed net (La a b out) wire d k (inl e) h = IsIn-left d (feeding net a.number) (feeding net b.number) (subst (λ w. IsIn d (feeding net w)) (sym e) h)
read_needed net (La a b out) wire d k (inr (inl e)) h = IsIn-right d (feeding net a.number) (feeding net b.number) (subst (λ w. IsIn d (feeding net w)) (sym e) h)
read_needed net (La a b out) wire d k (inr (inr i)) h = absurd i
read_needed net (Fa a b out) wire d k (inl e) h = IsIn-left d (feeding net a.number) (feeding net b.number) (subst (λ w. IsIn d (feeding net w)) (sym e) h)
read_needed net (Fa a b out) wire d k (inr (inl e)) h = IsIn-right d (feeding net a.number) (feeding net b.number) (subst (λ w. IsIn d (feeding net w)) (sym e) h)
read_needed net (Fa a b out) wire d k (inr (inr i)) h = absurd i
read_needed net (Split from left right) wire d k (inl e) h = subst (λ w. IsIn d (feeding net w)) (sym e) h
read_needed net (Split from left right) wire d k (inr i) h = absurd i
read_needed net (Droc role preload feed q n) wire d k i h = absurd (k tt)

module _ (net : PlainNetlist) where
  pub need_count : length (map (needs_of_cell net) net.cells) ≡ length net.cells
  need_count = length-map net.cells (needs_of_cell net)

  -- the lists of a cell
  pub needs_at : (c : ℕ) (cell : Cell) → slice_get net.cells c ≡ Some cell → needs_of (dependencies_of net) c ≡ needs_of_cell net cell
  needs_at c cell at = mapped_at (needs_of_cell net) [] net.cells c cell at

  pub yields_at : (c : ℕ) → c < length net.cells → yields_of (dependencies_of net) c ≡ c ∷ []
  yields_at c lt =
      let u = length-upto (length net.cells) in
      get_or-map (λ x. x ∷ []) (upto (length net.cells)) c 0 [] (omega (arith, u))
      ∙ ap (λ x. x ∷ []) (get_or_from_slice_get (upto (length net.cells)) c c 0 (slice_get-upto (length net.cells) c lt))

  need_below : (cell : Cell) (b : ℕ) → IsIn b (needs_of_cell net cell) → b < length net.cells
  need_below cell b i =
      let from = need_from net cell b i in passing_below net b (feeding_drives net b from.0 from.2).passing

  module _ (sound : IsSound net) where
    -- no cell drives the wire of an input rail
    pub rail_apart : (rail : Rail) → IsIn rail net.input_rails → (c : ℕ) → Drives net c (wire_of rail) → ⊥
    rail_apart rail i c d =
        let wire = wire_of rail in
        let total = occurrences-append wire (map wire_of net.input_rails) (flat_map outs net.cells) in
        let once = driven_once net sound.wired wire in
        let one = IsIn-occurrences wire (map wire_of net.input_rails) (IsIn-map wire_of rail net.input_rails i) in
        let other = IsIn-occurrences wire (flat_map outs net.cells) (IsIn-flat_map outs wire d.passing.cell net.cells (IsIn-place d.passing.cell net.cells c d.passing.at) d.out) in
        omega arith

    -- the cell that drives a wire is the one of its number
    pub its_cell : (wire c : ℕ) (cell : Cell) → Drives net c wire → IsIn cell net.cells → IsIn wire (outs cell) → slice_get net.cells c ≡ Some cell
    its_cell wire c cell d i o =
        let at = place_of cell net.cells i in
        let same = (driving_cell-is net sound.wired wire at.0 c cell d.passing.cell at.1 d.passing.at o d.out).0 in
        subst (λ k. slice_get net.cells k ≡ Some cell) same at.1

    -- what drives a grounded wire is reached
    reached_wire : (wire : ℕ) → Grounded net wire → (c : ℕ) → Drives net c wire → Reached (dependencies_of net) c
    reached_wire _ (of_rail wire rail i e) c d = absurd (rail_apart rail i c (subst (λ w. Drives net c w) (sym e) d))
    reached_wire _ (of_droc wire cell i droc o) c d =
        absurd (d.passing.kind (subst IsDroc (same_cell net c (its_cell wire c cell d i o) d.passing.at) droc))
    reached_wire _ (of_gate wire cell i other o all) c d =
        let at = its_cell wire c cell d i o in
        let lt = at_below net c cell at in
        by_item c c (omega (arith, lt, need_count))
        (λ used j.
        let from = need_from net cell used (subst (λ l. IsIn used l) (needs_at c cell at) (IsIn-contained (needs_of (dependencies_of net) c) used j)) in
        reached_wire from.0 (all from.0 from.1) used (feeding_drives net used from.0 from.2))
        (contained-IsIn (yields_of (dependencies_of net) c) c (subst (λ l. IsIn c l) (sym (yields_at c lt)) (inl refl)))

    need_reached : (item used : ℕ) → item < length (dependencies_of net).needs → Contains (needs_of (dependencies_of net) item) used → Reached (dependencies_of net) used
    need_reached item used lt j =
        let at = cell_at net.cells item (omega (arith, lt, need_count)) in
        let from = need_from net at.0 used (subst (λ l. IsIn used l) (needs_at item at.0 at.1) (IsIn-contained (needs_of (dependencies_of net) item) used j)) in
        reached_wire from.0 (read-grounded net sound from.0 at.0 (IsIn-place at.0 net.cells item at.1) from.1) used (feeding_drives net used from.0 from.2)

    -- so an order has every cell
    pub all_in_order : (order : List ℕ) → IsOrder (dependencies_of net) order → (c : ℕ) → c < length net.cells → IsIn c order
    all_in_order order h c lt =
        IsIn-contained order c (all_come (dependencies_of net) order h need_reached c (omega (arith, lt, need_count)))

  -- at most one cell drives a wire
  one_passing : (place : Driver) → length (passing_at place) ≤ 1
  one_passing (Input id) = omega arith
  one_passing (Out id) = omega arith
  one_passing (Left id) = omega arith
  one_passing (Right id) = omega arith
  one_passing (Q id) = omega arith
  one_passing (N id) = omega arith

  few_passing : (places : List Driver) → length (flat_map passing_at places) ≤ length places
  few_passing [] = omega arith
  few_passing (place ∷ places) =
      let one = one_passing place in
      let rest = few_passing places in
      let total = length-append (passing_at place) (flat_map passing_at places) in omega arith

  module _ (sound : IsSound net) (counted : PlacesAreCounted) (few : length net.cells ≤ most_lines) where
    one_feeds : (wire : ℕ) → length (feeding net wire) ≤ 1
    one_feeds wire =
        let less = few_passing (drivers net wire) in
        let count = (counted net wire).0 in
        let once = driven_once net sound.wired wire in omega arith

    few_needs : (cell : Cell) → length (needs_of_cell net cell) ≤ 2
    few_needs (La a b out) =
        let p = one_feeds a.number in let q = one_feeds b.number in let l = length-append (feeding net a.number) (feeding net b.number) in omega arith
    few_needs (Fa a b out) =
        let p = one_feeds a.number in let q = one_feeds b.number in let l = length-append (feeding net a.number) (feeding net b.number) in omega arith
    few_needs (Split from left right) = let p = one_feeds from.number in omega arith
    few_needs (Droc role preload feed q n) = omega arith

    yield_count : length (dependencies_of net).yields ≡ length net.cells
    yield_count = length-map (upto (length net.cells)) (λ c. c ∷ []) ∙ length-upto (length net.cells)

    pub in_range : AreInRange (dependencies_of net)
    in_range = record {
      paired = yield_count ∙ sym need_count;
      few_items = omega (arith, few, need_count);
      few_needs = let total = sum_by-le length 2 (map (needs_of_cell net) net.cells)
          (All-map (λ l. length l ≤ 2) (needs_of_cell net) net.cells (λ k d lt. few_needs (get_or net.cells k d))) in
          omega (arith, few, need_count);
      few_yields = let total = sum_by-le length 1 (dependencies_of net).yields
          (All-map (λ l. length l ≤ 1) (λ c. c ∷ []) (upto (length net.cells)) (λ k d lt. omega arith)) in
          omega (arith, few, yield_count);
      starts_fit = λ k d lt. absurd (omega arith);
      needs_fit = All-map (AreBelow (length net.cells)) (needs_of_cell net) net.cells
          (λ k d lt. λ i e low. need_below (get_or net.cells k d) (get_or (needs_of_cell net (get_or net.cells k d)) i e) (IsIn-at (needs_of_cell net (get_or net.cells k d)) i e low));
      yields_fit = All-map (AreBelow (length net.cells)) (λ c. c ∷ []) (upto (length net.cells))
          (λ k d lt. one_below (get_or (upto (length net.cells)) k d) (upto_below k d lt));
    }
      where
        upto_below : (k d : ℕ) → k < length (upto (length net.cells)) → get_or (upto (length net.cells)) k d < length net.cells
        upto_below k d lt =
            let low : k < length net.cells = omega (arith, length-upto (length net.cells)) in
            let e = get_or_from_slice_get (upto (length net.cells)) k k d (slice_get-upto (length net.cells) k low) in omega arith

        one_below : (c : ℕ) → c < length net.cells → AreBelow (length net.cells) (c ∷ [])
        one_below c lt zero d low = lt
        one_below c lt (suc i) d low = absurd (omega arith)

    -- a cell that is added as the next item
    module _ (c : ℕ) (cell : Cell) (at : slice_get net.cells c ≡ Some cell) (dependencies : PlainDependencies)
        (begun : dependencies ≡ first_items (dependencies_of net) c) (needs yields : List ℕ) (needs_are : needs ≡ needs_of_cell net cell) (yields_are : yields ≡ c ∷ []) where
      low : c < length (dependencies_of net).needs
      low = omega (arith, at_below net c cell at, need_count)

      its_needs : needs_of (dependencies_of net) c ≡ needs
      its_needs = needs_at c cell at ∙ sym needs_are

      its_yields : yields_of (dependencies_of net) c ≡ yields
      its_yields = yields_at c (at_below net c cell at) ∙ sym yields_are

      count_is : dependencies.count ≡ length net.cells
      count_is = ap (λ (d : PlainDependencies). d.count) begun

      pub added_needs_fit : AreBelow dependencies.count needs
      added_needs_fit = rw count_is (subst (λ l. AreBelow (length net.cells) l) its_needs (next_needs_fit (dependencies_of net) in_range c low))

      pub added_yields_fit : AreBelow dependencies.count yields
      added_yields_fit = rw count_is (subst (λ l. AreBelow (length net.cells) l) its_yields (next_yields_fit (dependencies_of net) in_range c low))

      pub added_stays_small : StaysSmall dependencies needs yields
      added_stays_small = subst (λ (d : PlainDependencies). StaysSmall d needs yields) (sym begun)
          (subst (λ l. StaysSmall (first_items (dependencies_of net) c) l yields) its_needs
          (subst (λ l. StaysSmall (first_items (dependencies_of net) c) (needs_of (dependencies_of net) c) l) its_yields
          (next_stays_small (dependencies_of net) in_range c low)))

      pub added_is_first : with_item dependencies needs yields ≡ first_items (dependencies_of net) (c + 1)
      added_is_first = ap (λ (d : PlainDependencies). with_item d needs yields) begun
          ∙ ap (λ l. with_item (first_items (dependencies_of net) c) l yields) (sym its_needs)
          ∙ ap (λ l. with_item (first_items (dependencies_of net) c) (needs_of (dependencies_of net) c) l) (sym its_yields)
          ∙ next_is_first (dependencies_of net) in_range c low

    pub all_added : (n : ℕ) → n ≡ length net.cells → first_items (dependencies_of net) n ≡ dependencies_of net
    all_added n e = ap (λ k. first_items (dependencies_of net) k) (e ∙ sym need_count) ∙ all_items (dependencies_of net) in_range
