-- A bound is small: the wires of its path are different, and each of its cells takes at most 1,000.
use Rattle.std.proofs.Common.{◌≡◌, ◌+◌, ◌*◌, ◌<◌, ◌≤◌, ◌^◌, ◌⊎◌, ℕ, zero, suc, Option, Some, None, inl, inr, List, [], ◌∷◌, length, map, reverse, max, slice_get, nat_lt, if◌then◌else◌, refl, sym, ap, subst, ◌∙◌, arith}
use Rattle.std.proofs.lemmas.Bool.{cases_eq, cases_lt}
use Rattle.std.proofs.lemmas.Grind.{common_steps}
use Rattle.pulse_ids.specs.Ids.{CellId}
use Rattle.pulse_ids.specs.Lists.{IsIn, occurrences}
use Rattle.pulse_ids.proofs.CallerLemmas.{IsIn-place}
use Rattle.pulse_ids.proofs.CallerLemmasOnCounts.{occurrences-head, occurrences-other, occurrences-IsIn}
use Rattle.cell_netlist.specs.declared.lines.Cell.{Cell}
use Rattle.cell_netlist.specs.declared.lines.Cell.TheVariants.{La, Fa, Split, Droc}
use Rattle.cell_netlist.specs.Netlists.{PlainNetlist, outs, number_of_wires}
use Rattle.cell_netlist.proofs.CallerLemmas.{named_below}
use Rattle.timed_world.specs.Bounds.{entry_of, comes_by, LeadsBack, AreArrivals, PlainBound, IsLatestPath, IsBound}
use Rattle.timed_world.specs.Delays.{PlainDelays, AreWithin, delay_of, kind_of}
use Rattle.timed_world.specs.Laws.{BoundsAreSmall}
use Rattle.timed_world.proofs.FewNumbers.{few_once}

-- the entry of a cell is the arrival of the wire by which the path comes to it
later_is : (f : ℕ → ℕ) (x y wire : ℕ) → (if nat_lt (f x) (f y) then y else x) ≡ wire → max (f x) (f y) ≡ f wire
later_is f x y wire e = elim (cases_lt (f x) (f y)) [
  | inl lt ↦ let s : y ≡ wire = grind (arith, common_steps) in let t = ap f s in omega arith
  | inr ge ↦ let s : x ≡ wire = grind (arith, common_steps) in let t = ap f s in omega arith
]

entry_is : (arrival : ℕ → ℕ) (cell : Cell) (wire : ℕ) → comes_by arrival cell ≡ Some wire → entry_of arrival cell ≡ arrival wire
entry_is arrival (La a b out) wire e = later_is arrival a.number b.number wire cc
entry_is arrival (Fa a b out) wire e = later_is arrival a.number b.number wire cc
entry_is arrival (Split from left right) wire e = let s : from.number ≡ wire = cc in ap arrival s
entry_is arrival (Droc role preload feed q n) wire e = absurd cc

entry_none : (arrival : ℕ → ℕ) (cell : Cell) → comes_by arrival cell ≡ None → entry_of arrival cell ≡ 0
entry_none arrival (La a b out) e = absurd cc
entry_none arrival (Fa a b out) e = absurd cc
entry_none arrival (Split from left right) e = absurd cc
entry_none arrival (Droc role preload feed q n) e = refl

-- The wires of the way back from a wire: as many as cells, all different, and none later than the first.
record WayBack (net : PlainNetlist) (arrival : ℕ → ℕ) (wire count : ℕ) : Type 0 where
  wires : List ℕ
  long : length wires ≡ count
  below : (other : ℕ) → IsIn other wires → other < number_of_wires net
  early : (other : ℕ) → IsIn other wires → arrival other ≤ arrival wire
  once : (other : ℕ) → occurrences other wires ≤ 1
  most : arrival wire ≤ 1000 * count

module _ (delays : PlainDelays) (within : AreWithin delays) (net : PlainNetlist) (arrival : ℕ → ℕ) (are : AreArrivals delays net arrival) where
  module _ (wire c : ℕ) (cell : Cell) (at : slice_get net.cells c ≡ Some cell) (out : IsIn wire (outs cell)) where
    its_time : arrival wire ≡ entry_of arrival cell + delay_of delays (kind_of cell)
    its_time = are.of_cell cell (IsIn-place cell net.cells c at) wire out

    its_number : wire < number_of_wires net
    its_number = (named_below net).of_outs cell (IsIn-place cell net.cells c at) wire out

    way_one : comes_by arrival cell ≡ None → WayBack net arrival wire 1
    way_one e = record {
      wires = wire ∷ [];
      long = refl;
      below = λ other i. only other i;
      early = λ other i. same other i;
      once = λ other. single other (cases_eq other wire);
      most = let t = its_time in let z = entry_none arrival cell e in let d = (within (kind_of cell)).1 in omega arith;
    }
      where
        only : (other : ℕ) → IsIn other (wire ∷ []) → other < number_of_wires net
        only other (inl e) = let n = its_number in omega arith
        only other (inr none) = absurd none

        same : (other : ℕ) → IsIn other (wire ∷ []) → arrival other ≤ arrival wire
        same other (inl e) = let t = ap arrival e in omega arith
        same other (inr none) = absurd none

        single : (other : ℕ) → (other ≡ wire) ⊎ (other ≡ wire → ⊥) → occurrences other (wire ∷ []) ≤ 1
        single other (inl e) = let h = occurrences-head other wire [] (sym e) in omega arith
        single other (inr ne) = let h = occurrences-other other wire [] (λ e. ne (sym e)) in omega arith

    way_more : (next count : ℕ) → comes_by arrival cell ≡ Some next → WayBack net arrival next count → WayBack net arrival wire (suc count)
    way_more next count e way = record {
      wires = wire ∷ way.wires;
      long = ap suc way.long;
      below = λ other i. low other i;
      early = λ other i. less other i;
      once = λ other. apart other (cases_eq other wire);
      most = let t = its_time in let z = entry_is arrival cell next e in let d = (within (kind_of cell)).1 in let m = way.most in omega arith;
    }
      where
        later : arrival next < arrival wire
        later = let t = its_time in let z = entry_is arrival cell next e in let d = (within (kind_of cell)).0 in omega arith

        low : (other : ℕ) → IsIn other (wire ∷ way.wires) → other < number_of_wires net
        low other (inl e) = let n = its_number in omega arith
        low other (inr i) = way.below other i

        less : (other : ℕ) → IsIn other (wire ∷ way.wires) → arrival other ≤ arrival wire
        less other (inl e) = let t = ap arrival e in omega arith
        less other (inr i) = let m = way.early other i in let l = later in omega arith

        new : (count : ℕ) → occurrences wire way.wires ≡ count → count ≡ 0
        new zero e = refl
        new (suc count) e = let i = way.early wire (occurrences-IsIn wire way.wires (omega arith)) in let l = later in absurd (omega arith)

        apart : (other : ℕ) → (other ≡ wire) ⊎ (other ≡ wire → ⊥) → occurrences other (wire ∷ way.wires) ≤ 1
        apart other (inl e) =
            let h = occurrences-head other wire way.wires (sym e) in
            let z = new (occurrences wire way.wires) refl in
            let s = ap (λ n. occurrences n way.wires) e in omega arith
        apart other (inr ne) = let h = occurrences-other other wire way.wires (λ e. ne (sym e)) in let o = way.once other in omega arith

    way_next : (rest : List ℕ) → ((next : ℕ) → LeadsBack net arrival (Some next) rest → WayBack net arrival next (length rest)) → (way : Option ℕ) → comes_by arrival cell ≡ way
        → LeadsBack net arrival way rest → WayBack net arrival wire (suc (length rest))
    way_next [] more None e h = way_one e
    way_next (d ∷ rest) more None e h = absurd h
    way_next rest more (Some next) e h = way_more next (length rest) e (more next h)

  way_back : (cells : List ℕ) (wire : ℕ) → LeadsBack net arrival (Some wire) cells → WayBack net arrival wire (length cells)
  way_back [] wire (rail, i, on) = record {
    wires = [];
    long = refl;
    below = λ other k. absurd k;
    early = λ other k. absurd k;
    once = λ other. omega arith;
    most = let z = are.of_rail rail i in let s = ap arrival on in omega arith;
  }
  way_back (c ∷ rest) wire (cell, at, out, leads) = way_next wire c cell at out rest (λ next h. way_back rest next h) (comes_by arrival cell) refl leads

  small : number_of_wires net ≤ 2 ^ 22 → (latest : Option ℕ) (bound : PlainBound) → IsLatestPath net arrival latest bound → bound.time < 2 ^ 33
  small few None bound is = let z = is.1 in omega arith
  small few (Some wire) bound is =
      let way = way_back (reverse (map (λ (cell : CellId). cell.number) bound.path)) wire is.2 in
      let short = few_once way.wires (number_of_wires net) way.once way.below in
      let long = way.long in
      let most = way.most in
      let time = is.1 in omega arith

pub bounds_are_small : BoundsAreSmall
bounds_are_small net few delays within bound is = small delays within net is.arrival is.arrivals few is.latest bound is.is
