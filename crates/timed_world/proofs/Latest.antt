-- The latest of the wires, and the way back from it.
use Rattle.std.proofs.Common.{◌≡◌, ◌+◌, ◌<◌, ◌≤◌, ℕ, Option, Some, None, inl, inr, List, [], ◌∷◌, ◌++◌, length, map, reverse, max, slice_get, nat_lt, refl, sym, ap, subst, ◌∙◌, arith, if◌then◌else◌}
use Rattle.std.specs.Prelude.{option_map, IfSome}
use Rattle.std.proofs.lemmas.Bool.{cases_eq, cases_lt}
use Rattle.std.proofs.lemmas.Grind.{common_steps}
use Rattle.std.proofs.lemmas.List.{append_assoc, reverse-append, reverse-reverse}
use Rattle.pulse_ids.specs.Ids.{WireId, CellId}
use Rattle.pulse_ids.specs.Lists.{IsIn, occurrences}
use Rattle.pulse_ids.proofs.CallerLemmas.{IsIn-append, IsIn-place}
use Rattle.pulse_ids.proofs.CallerLemmasOnCounts.{once_more}
use Rattle.cell_netlist.specs.declared.lines.Cell.{Cell}
use Rattle.cell_netlist.specs.declared.lines.Cell.TheVariants.{La, Fa, Split, Droc}
use Rattle.cell_netlist.specs.Netlists.{PlainNetlist, number_of_wires}
use Rattle.timed_world.specs.Bounding.{IsLatestBelow, DrivenBy, IsDriven, numbers_of}
use Rattle.timed_world.specs.Bounds.{entry_of, comes_by, LeadsBack, AreArrivals, PlainBound, bound_of, IsBound}
use Rattle.timed_world.specs.Delays.{PlainDelays, AreWithin, delay_of, kind_of}
use Rattle.timed_world.proofs.DrivingCells.{driven_below}
use Rattle.timed_world.proofs.FewNumbers.{few_once}

-- the first wire alone
pub latest_one : (arrival : ℕ → ℕ) → IsLatestBelow arrival 1 0
latest_one arrival = record {
  below = omega arith;
  most = λ other lt. let z : other ≡ 0 = omega arith in let e = ap arrival z in omega arith;
  lowest = λ other lt e. omega arith;
}

-- and one wire more
pub latest_more : (arrival : ℕ → ℕ) (wires : ℕ) (last next : WireId × ℕ) (wire : WireId) (time : ℕ) → IsLatestBelow arrival wires last.0.number → last.1 ≡ arrival last.0.number
    → wire.number ≡ wires → time ≡ arrival wires → next ≡ (if nat_lt last.1 time then (wire, time) else last)
    → IsLatestBelow arrival (wires + 1) next.0.number × (next.1 ≡ arrival next.0.number)
latest_more arrival wires last next wire time is greatest here its e = elim (cases_lt last.1 time) [
  | inl lt ↦
      let there : next ≡ (wire, time) = grind (arith, common_steps) in
      let number : next.0.number ≡ wires = ap (λ (p : WireId × ℕ). p.0.number) there ∙ here in (
        record {
          below = omega arith;
          most = λ other low. elim (cases_eq other wires) [
            | inl same ↦ let s = ap arrival (same ∙ sym number) in omega arith
            | inr ne ↦ let m = is.most other (omega arith) in let s = ap arrival number in omega arith
          ];
          lowest = λ other low same. elim (cases_eq other wires) [
            | inl s ↦ omega arith
            | inr ne ↦ let m = is.most other (omega arith) in let s = ap arrival number in absurd (omega arith)
          ];
        },
        ap (λ (p : WireId × ℕ). p.1) there ∙ (its ∙ sym (ap arrival number)),
      )
  | inr ge ↦
      let there : next ≡ last = grind (arith, common_steps) in
      let number : next.0.number ≡ last.0.number = ap (λ (p : WireId × ℕ). p.0.number) there in
      let s = ap arrival number in (
        record {
          below = let b = is.below in omega arith;
          most = λ other low. elim (cases_eq other wires) [
            | inl same ↦ let t = ap arrival same in omega arith
            | inr ne ↦ let m = is.most other (omega arith) in omega arith
          ];
          lowest = λ other low same. elim (cases_eq other wires) [
            | inl t ↦ let b = is.below in omega arith
            | inr ne ↦ let m = is.lowest other (omega arith) (omega arith) in omega arith
          ];
        },
        ap (λ (p : WireId × ℕ). p.1) there ∙ (greatest ∙ sym s),
      )
]

-- the wire by which the path comes to a cell arrives no later than its entry
way_most : (arrival : ℕ → ℕ) (cell : Cell) (wire : ℕ) → comes_by arrival cell ≡ Some wire → arrival wire ≤ entry_of arrival cell
way_most arrival (La a b out) wire e = choice arrival a.number b.number wire (cc)
  where
    choice : (f : ℕ → ℕ) (x y w : ℕ) → (if nat_lt (f x) (f y) then y else x) ≡ w → f w ≤ max (f x) (f y)
    choice f x y w g = elim (cases_lt (f x) (f y)) [
      | inl lt ↦ let s : y ≡ w = grind (arith, common_steps) in let t = ap f s in omega arith
      | inr ge ↦ let s : x ≡ w = grind (arith, common_steps) in let t = ap f s in omega arith
    ]
way_most arrival (Fa a b out) wire e = choice arrival a.number b.number wire (cc)
  where
    choice : (f : ℕ → ℕ) (x y w : ℕ) → (if nat_lt (f x) (f y) then y else x) ≡ w → f w ≤ max (f x) (f y)
    choice f x y w g = elim (cases_lt (f x) (f y)) [
      | inl lt ↦ let s : y ≡ w = grind (arith, common_steps) in let t = ap f s in omega arith
      | inr ge ↦ let s : x ≡ w = grind (arith, common_steps) in let t = ap f s in omega arith
    ]
way_most arrival (Split from left right) wire e = let s : from.number ≡ wire = cc in let t = ap arrival s in omega arith
way_most arrival (Droc role preload feed q n) wire e = absurd cc

-- how much of the way back is left at the most
abbrev pub way_left : (ℕ → ℕ) → Option ℕ → ℕ
way_left arrival None = 0
way_left arrival (Some wire) = arrival wire + 1

-- The cells so far lead back from the last wire to the one that is next; each of them emits later than the next wire arrives.
pub record BackTo (delays : PlainDelays) (net : PlainNetlist) (arrival : ℕ → ℕ) (last : ℕ) (cells : List ℕ) (next : Option ℕ) : Type 0 where
  pub rest : (more : List ℕ) → LeadsBack net arrival next more → LeadsBack net arrival (Some last) (cells ++ more)
  pub below : (wire : ℕ) → next ≡ Some wire → wire < number_of_wires net
  pub once : (c : ℕ) → occurrences c cells ≤ 1
  pub low : (c : ℕ) → IsIn c cells → c < length net.cells
  pub later : (c : ℕ) → IsIn c cells → (cell : Cell) → slice_get net.cells c ≡ Some cell → way_left arrival next ≤ entry_of arrival cell + delay_of delays (kind_of cell)

pub back_begun : (delays : PlainDelays) (net : PlainNetlist) (arrival : ℕ → ℕ) (last : ℕ) → last < number_of_wires net → BackTo delays net arrival last [] (Some last)
back_begun delays net arrival last low = record {
  rest = λ more h. h;
  below = λ wire e. let s : last ≡ wire = cc in omega arith;
  once = λ c. omega arith;
  low = λ c i. absurd i;
  later = λ c i. absurd i;
}

pub back_few : (delays : PlainDelays) (net : PlainNetlist) (arrival : ℕ → ℕ) (last : ℕ) (cells : List ℕ) (next : Option ℕ)
    → BackTo delays net arrival last cells next → length cells ≤ length net.cells
back_few delays net arrival last cells next b = few_once cells (length net.cells) b.once b.low

pub back_done : (delays : PlainDelays) (net : PlainNetlist) (arrival : ℕ → ℕ) (last : ℕ) (cells : List ℕ) (next : Option ℕ) → BackTo delays net arrival last cells next
    → IsDriven net next None → LeadsBack net arrival (Some last) cells
back_done delays net arrival last cells next b driven = subst (LeadsBack net arrival (Some last)) (append-none cells) (b.rest [] (ends next driven))
  where
    append-none : (xs : List ℕ) → xs ++ [] ≡ xs
    append-none [] = refl
    append-none (x ∷ xs) = ap (λ l. x ∷ l) (append-none xs)

    ends : (way : Option ℕ) → IsDriven net way None → LeadsBack net arrival way []
    ends None d = tt
    ends (Some wire) d = d

module _ (delays : PlainDelays) (within : AreWithin delays) (net : PlainNetlist) (arrival : ℕ → ℕ) (are : AreArrivals delays net arrival) (last : ℕ) (cells : List ℕ) (wire c : ℕ)
    (b : BackTo delays net arrival last cells (Some wire)) (d : DrivenBy net wire c) (next : Option ℕ) (way : next ≡ comes_by arrival d.cell)
    (below : (w : ℕ) → next ≡ Some w → w < number_of_wires net) where
  its_time : arrival wire ≡ entry_of arrival d.cell + delay_of delays (kind_of d.cell)
  its_time = are.of_cell d.cell (IsIn-place d.cell net.cells c d.at) wire d.out

  -- the way back gets shorter
  left_less : way_left arrival next ≤ arrival wire
  left_less = go next way
    where
      go : (n : Option ℕ) → n ≡ comes_by arrival d.cell → way_left arrival n ≤ arrival wire
      go None e = omega arith
      go (Some w) e =
          let m = way_most arrival d.cell w (sym e) in
          let t = its_time in
          let l = (within (kind_of d.cell)).0 in omega arith

  pub back_shorter : way_left arrival next < way_left arrival (Some wire)
  back_shorter = let l = left_less in omega arith

  new : IsIn c cells → ⊥
  new i = let l = b.later c i d.cell d.at in let t = its_time in absurd (omega arith)

  pub back_more : BackTo delays net arrival last (cells ++ c ∷ []) next
  back_more = record {
    rest = λ more h. subst (LeadsBack net arrival (Some last)) (sym (append_assoc cells (c ∷ []) more))
        (b.rest (c ∷ more) (d.cell, d.at, d.out, subst (λ n. LeadsBack net arrival n more) way h));
    below = below;
    once = λ x. once_more x c cells (b.once x) new;
    low = λ x i. elim (IsIn-append x cells (c ∷ []) i) [
      | inl old ↦ b.low x old
      | inr its ↦ only x its
    ];
    later = λ x i cell at. elim (IsIn-append x cells (c ∷ []) i) [
      | inl old ↦ let l = b.later x old cell at in let s = left_less in omega arith
      | inr its ↦ its_later x its cell at
    ];
  }
    where
      only : (x : ℕ) → IsIn x (c ∷ []) → x < length net.cells
      only x (inl e) = let l = driven_below net wire c d in omega arith
      only x (inr none) = absurd none

      its_later : (x : ℕ) → IsIn x (c ∷ []) → (cell : Cell) → slice_get net.cells x ≡ Some cell → way_left arrival next ≤ entry_of arrival cell + delay_of delays (kind_of cell)
      its_later x (inl e) cell at =
          let there : slice_get net.cells c ≡ Some cell = subst (λ k. slice_get net.cells k ≡ Some cell) (sym e) at in
          let have = d.at in
          let same : d.cell ≡ cell = cc in
          let t = ap (λ k. entry_of arrival k + delay_of delays (kind_of k)) same in
          let s = left_less in
          let u = its_time in omega arith
      its_later x (inr none) cell at = absurd none

driven_some : (net : PlainNetlist) (way : Option ℕ) (c : ℕ) → IsDriven net way (Some c) → (wire : ℕ) × (way ≡ Some wire) × DrivenBy net wire c
driven_some net None c d = absurd d
driven_some net (Some wire) c d = (wire, refl, d)

-- one cell more on the way back
module _ (delays : PlainDelays) (within : AreWithin delays) (net : PlainNetlist) (arrival : ℕ → ℕ) (are : AreArrivals delays net arrival) (last : ℕ) (cells : List ℕ)
    (way : Option ℕ) (b : BackTo delays net arrival last cells way) (c : ℕ) (driven : IsDriven net way (Some c)) (cell : Cell) (at : slice_get net.cells c ≡ Some cell)
    (next : Option ℕ) (comes : next ≡ comes_by arrival cell) (below : (w : ℕ) → next ≡ Some w → w < number_of_wires net) where
  d : (wire : ℕ) × (way ≡ Some wire) × DrivenBy net wire c
  d = driven_some net way c driven

  same : cell ≡ d.2.cell
  same = let have = d.2.at in cc

  there : BackTo delays net arrival last cells (Some d.0)
  there = subst (BackTo delays net arrival last cells) d.1 b

  came : next ≡ comes_by arrival d.2.cell
  came = comes ∙ ap (comes_by arrival) same

  pub step_more : BackTo delays net arrival last (cells ++ c ∷ []) next
  step_more = back_more delays within net arrival are last cells d.0 c there d.2 next came below

  pub step_shorter : way_left arrival next < way_left arrival way
  step_shorter = subst (λ w. way_left arrival next < way_left arrival w) (sym d.1) (back_shorter delays within net arrival are last cells d.0 c there d.2 next came below)

-- the wires of an option are below where its wire is
pub below_some : (n : ℕ) (wire : Option WireId) → IfSome wire (λ w. w.number < n) → (w : ℕ) → option_map (λ x. x.number) wire ≡ Some w → w < n
below_some n None low w e = absurd cc
below_some n (Some x) low w e = let s : x.number ≡ w = cc in let l : x.number < n = low in omega arith

pub numbers-more : (xs : List CellId) (x : CellId) → numbers_of (xs ++ x ∷ []) ≡ numbers_of xs ++ x.number ∷ []
numbers-more [] x = refl
numbers-more (y ∷ xs) x = ap (λ l. y.number ∷ l) (numbers-more xs x)

numbers-append : (xs ys : List CellId) → numbers_of (xs ++ ys) ≡ numbers_of xs ++ numbers_of ys
numbers-append [] ys = refl
numbers-append (y ∷ xs) ys = ap (λ l. y.number ∷ l) (numbers-append xs ys)

numbers-reverse : (xs : List CellId) → numbers_of (reverse xs) ≡ reverse (numbers_of xs)
numbers-reverse [] = refl
numbers-reverse (x ∷ xs) =
    ap numbers_of (reverse-append (x ∷ []) xs) ∙ (numbers-append (reverse xs) (x ∷ []) ∙ (ap (λ l. l ++ x.number ∷ []) (numbers-reverse xs) ∙ sym (reverse-append (x.number ∷ []) (numbers_of xs))))

-- the bound of a latest wire and the cells back from it
pub bound_is : (delays : PlainDelays) (net : PlainNetlist) (arrival : ℕ → ℕ) → AreArrivals delays net arrival → (last time : ℕ) (cells turned : List CellId) (bound : PlainBound)
    → IsLatestBelow arrival (number_of_wires net) last → LeadsBack net arrival (Some last) (numbers_of cells) → time ≡ arrival last → turned ≡ reverse cells
    → bound ≡ bound_of time turned → IsBound delays net bound
bound_is delays net arrival are last time cells turned bound latest leads is turns e = record {
  arrival = arrival;
  arrivals = are;
  latest = Some last;
  is = (
    record { below = latest.below; most = latest.most; lowest = latest.lowest },
    ap (λ (b : PlainBound). b.time) e ∙ is,
    subst (LeadsBack net arrival (Some last)) (sym path_is) leads,
  );
}
  where
    path_is : reverse (map (λ (cell : CellId). cell.number) bound.path) ≡ numbers_of cells
    path_is =
        ap (λ (b : PlainBound). reverse (numbers_of b.path)) e ∙ (ap (λ l. reverse (numbers_of l)) turns
        ∙ (ap reverse (numbers-reverse cells) ∙ reverse-reverse (numbers_of cells)))

pub none_bound : (delays : PlainDelays) (net : PlainNetlist) (arrival : ℕ → ℕ) → AreArrivals delays net arrival → (bound : PlainBound) → number_of_wires net ≡ 0
    → bound ≡ bound_of 0 [] → IsBound delays net bound
none_bound delays net arrival are bound none e = record {
  arrival = arrival;
  arrivals = are;
  latest = None;
  is = (none, ap (λ (b : PlainBound). b.time) e, ap (λ (b : PlainBound). b.path) e);
}
