-- What pairs and constants make of a netlist: the lemmas that the crates above may cite.
use Rattle.std.proofs.Common.{◌≡◌, ◌≢◌, ◌≤◌, ◌<◌, ◌+◌, ◌*◌, ◌-◌, ◌==◌, ℕ, Bool, true, false, Some, List, [], ◌∷◌, ◌++◌, length, slice_get, nat_lt, ap, sym, subst, ◌∙◌, refl, inr, arith, append_assoc}
use Rattle.std.specs.List.{flat_map, range_with_len}
use Rattle.std.proofs.lemmas.Bool.{lt-ltb}
use Rattle.std.proofs.lemmas.Grind.{flat_map-append}
use Rattle.pulse_ids.specs.Ids.{numbered}
use Rattle.pulse_ids.specs.Lists.{IsIn, occurrences, ceil_log2}
use Rattle.pulse_ids.proofs.CallerLemmas.{IsIn-left, IsIn-right}
use Rattle.pulse_ids.proofs.CallerLemmasOnCounts.{one_if, occurrences-append}
use Rattle.cell_netlist.specs.declared.kinds.Role.TheVariants.{Back}
use Rattle.cell_netlist.specs.declared.lines.Cell.{Cell}
use Rattle.cell_netlist.specs.declared.lines.Cell.TheVariants.{Droc}
use Rattle.cell_netlist.specs.Netlists.{PlainNetlist, outs, reads, driven, read, number_of_wires, SplittersBelow}
use Rattle.cell_netlist.specs.WireLaws.{AnotherFeedLeavesRest}
use Rattle.splitter_trees.specs.Spreading.{with_cells, only_cells}
use Rattle.splitter_trees.proofs.CallerLemmas.{place_stays, place_behind, cells_driven, cells_read, chain_stands}
use Rattle.splitter_trees.proofs.CallerLemmasOnRanges.{range-append, range-within, range-once}
use Rattle.droc_pairs.specs.Pairs.{asked_output, wires_for, begun_back, StandsBack, front_of, IsPair}
use Rattle.droc_pairs.specs.Constants.{constant_cell, own_wire, ones_from, zeros_from, HasTreeIfRead, with_tree, without, IsConstant}

-- a back that is begun drives the new wires in order
pub begun_drives : (next : ℕ) (init q n : Bool) → outs (begun_back next init q n) ≡ range_with_len next (wires_for q + wires_for n)
begun_drives next init true true = refl
begun_drives next init true false = refl
begun_drives next init false true = let same : next + 0 ≡ next = omega arith in rw same refl
begun_drives next init false false = refl

-- and stands at its place, to be finished
pub begun_stands : (old new : PlainNetlist) (init q n : Bool) → new ≡ with_cells old (begun_back (number_of_wires old) init q n ∷ []) → StandsBack new (length old.cells) init
begun_stands old new init q n added = record {
  feed = numbered 0;
  q = asked_output q (number_of_wires old);
  n = asked_output n (number_of_wires old + wires_for q);
  is = ap (λ (net : PlainNetlist). slice_get net.cells (length old.cells)) added ∙ place_behind old.cells [] (begun_back (number_of_wires old) init q n);
}

module _ (leaves : AnotherFeedLeavesRest) (old new : PlainNetlist) (place : ℕ) (init : Bool) (next : ℕ) (it : IsPair old new place init next) (was : StandsBack old place init) where
  abbrev middle : PlainNetlist
  middle = with_cells old (front_of init next (number_of_wires old) ∷ [])

  -- the back keeps its outputs
  pub pair_back : slice_get new.cells place ≡ Some (Droc Back init (numbered (number_of_wires old)) was.q was.n)
  pair_back = ap (λ (net : PlainNetlist). slice_get net.cells place) it.is
      ∙ (leaves middle place (numbered (number_of_wires old))).fed (Droc Back init was.feed was.q was.n) (place_stays old.cells (front_of init next (number_of_wires old) ∷ []) place _ was.is)

  -- all other cells stay
  pub pair_stays : (other : ℕ) (cell : Cell) → other ≢ place → slice_get old.cells other ≡ Some cell → slice_get new.cells other ≡ Some cell
  pair_stays other cell differs at = ap (λ (net : PlainNetlist). slice_get net.cells other) it.is
      ∙ (leaves middle place (numbered (number_of_wires old))).others other differs ∙ place_stays old.cells (front_of init next (number_of_wires old) ∷ []) other cell at

  -- the link is driven besides what was
  pub pair_driven : (wire : ℕ) → occurrences wire (driven new) ≡ occurrences wire (driven old) + one_if (wire == number_of_wires old)
  pair_driven wire =
      let a = ap (λ (net : PlainNetlist). occurrences wire (driven net)) it.is ∙ ap (occurrences wire) (leaves middle place (numbered (number_of_wires old))).same_driven in
      let b = cells_driven old (front_of init next (number_of_wires old) ∷ []) wire in
      omega (arith, a, b)

  -- the next state and the link are read besides what was, and the back's old feed once less
  pub pair_read : (wire : ℕ) → occurrences wire (read new) + one_if (wire == was.feed.number)
      ≡ occurrences wire (read old) + one_if (wire == next) + one_if (wire == number_of_wires old)
  pair_read wire =
      let a = ap (λ (net : PlainNetlist). occurrences wire (read net)) it.is in
      let b = (leaves middle place (numbered (number_of_wires old))).read_moved Back init was.feed was.q was.n
      (place_stays old.cells (front_of init next (number_of_wires old) ∷ []) place _ was.is) wire in
      let c = cells_read old (front_of init next (number_of_wires old) ∷ []) wire in
      omega (arith, a, b, c)

-- the wires that a constant and its trees take
abbrev pub wires_of_constant : ℕ → ℕ → ℕ
wires_of_constant ones zeros = wires_for (nat_lt 0 ones) + 1 + 2 * (ones - 1) + 2 * zeros

-- the cell's own outputs
constant_outs : (next feed : ℕ) (q : Bool) → outs (constant_cell next q feed) ≡ range_with_len next (wires_for q + 1)
constant_outs next feed true = refl
constant_outs next feed false = let same : next + 0 ≡ next = omega arith in rw same refl

-- what a tree that may be missing drives and reads
tree_drives : (next from readers : ℕ) (cells : List Cell) (leaves : List ℕ) → HasTreeIfRead next from readers cells leaves → flat_map outs cells ≡ range_with_len next (2 * (readers - 1))
tree_drives next from readers cells leaves (with_tree some t s) = s.drives
tree_drives next from readers cells leaves (without none no_cells no_leaves) =
    let few : 2 * (readers - 1) ≡ 0 = omega arith in rw (no_cells, few) refl

tree_reads : (next from readers : ℕ) (cells : List Cell) (leaves : List ℕ) → HasTreeIfRead next from readers cells leaves → (wire : ℕ)
    → occurrences wire (flat_map reads cells) + occurrences wire leaves
    ≡ occurrences wire (range_with_len from (wires_for (nat_lt 0 readers))) + occurrences wire (range_with_len next (2 * (readers - 1)))
tree_reads next from readers cells leaves (with_tree some t s) wire =
    let one : nat_lt 0 readers ≡ true = lt-ltb 0 readers some in
    rw one (s.once wire ∙ ap (λ (ws : List ℕ). occurrences wire (from ∷ ws)) s.drives ∙ omega arith)
tree_reads next from readers cells leaves (without none no_cells no_leaves) wire =
    let few : 2 * (readers - 1) ≡ 0 = omega arith in
    rw (no_cells, no_leaves, few) (rw none refl)

module _ (old new : PlainNetlist) (ones zeros : ℕ) (one zero_leaves : List ℕ) (it : IsConstant old new ones zeros one zero_leaves) where
  abbrev next : ℕ
  next = number_of_wires old

  -- the cells that are added
  abbrev pub constant_cells : List Cell
  constant_cells = constant_cell next (nat_lt 0 ones) it.back ∷ (it.one_cells ++ it.zero_cells)

  -- they drive the new wires in order
  pub constant_drives : flat_map outs constant_cells ≡ range_with_len next (wires_of_constant ones zeros)
  constant_drives =
      let two : 2 * (zeros + 1 - 1) ≡ 2 * zeros = omega arith in
      let there : next + (wires_for (nat_lt 0 ones) + 1) ≡ ones_from next ones = omega arith in
      let last : next + (wires_for (nat_lt 0 ones) + 1 + 2 * (ones - 1)) ≡ zeros_from next ones = omega arith in
      ap (λ (ws : List ℕ). outs (constant_cell next (nat_lt 0 ones) it.back) ++ ws)
      (flat_map-append outs it.one_cells it.zero_cells
      ∙ ap (λ (ws : List ℕ). ws ++ flat_map outs it.zero_cells) (tree_drives _ _ _ _ _ it.one_tree)
      ∙ ap (λ (ws : List ℕ). range_with_len (ones_from next ones) (2 * (ones - 1)) ++ ws) (it.zero_spreads.drives ∙ ap (range_with_len (zeros_from next ones)) two))
      ∙ ap (λ (ws : List ℕ). ws ++ (range_with_len (ones_from next ones) (2 * (ones - 1)) ++ range_with_len (zeros_from next ones) (2 * zeros))) (constant_outs next it.back (nat_lt 0 ones))
      ∙ sym (range-append next (wires_for (nat_lt 0 ones) + 1 + 2 * (ones - 1)) (2 * zeros)
      ∙ ap (λ k. range_with_len next (wires_for (nat_lt 0 ones) + 1 + 2 * (ones - 1)) ++ range_with_len k (2 * zeros)) last
      ∙ ap (λ (ws : List ℕ). ws ++ range_with_len (zeros_from next ones) (2 * zeros))
      (range-append next (wires_for (nat_lt 0 ones) + 1) (2 * (ones - 1)) ∙ ap (λ k. range_with_len next (wires_for (nat_lt 0 ones) + 1) ++ range_with_len k (2 * (ones - 1))) there)
      ∙ append_assoc (range_with_len next (wires_for (nat_lt 0 ones) + 1)) (range_with_len (ones_from next ones) (2 * (ones - 1))) (range_with_len (zeros_from next ones) (2 * zeros)))

  -- each new wire is a leaf or read by one of them, once
  pub constant_reads : (wire : ℕ) → occurrences wire (flat_map reads constant_cells) + occurrences wire one + occurrences wire zero_leaves
      ≡ occurrences wire (range_with_len next (wires_of_constant ones zeros))
  constant_reads wire =
      let a = ap (occurrences wire) (flat_map-append reads it.one_cells it.zero_cells) ∙ occurrences-append wire (flat_map reads it.one_cells) (flat_map reads it.zero_cells) in
      let b = tree_reads (ones_from next ones) next ones it.one_cells one it.one_tree wire in
      let c = it.zero_spreads.once wire in
      let d = ap (occurrences wire) constant_drives in
      let e = occurrences-append wire (outs (constant_cell next (nat_lt 0 ones) it.back)) (flat_map outs (it.one_cells ++ it.zero_cells)) in
      let f = ap (occurrences wire) (flat_map-append outs it.one_cells it.zero_cells) ∙ occurrences-append wire (flat_map outs it.one_cells) (flat_map outs it.zero_cells) in
      let g = ap (occurrences wire) (tree_drives _ _ _ _ _ it.one_tree) in
      let h = own_outs (nat_lt 0 ones) wire in
      omega (arith, a, b, c, d, e, f, g, h)
    where
      own_outs : (q : Bool) (wire : ℕ) → occurrences wire (outs (constant_cell next q it.back)) ≡ occurrences wire (range_with_len next (wires_for q)) + one_if (wire == next + wires_for q)
      own_outs true wire = omega arith
      own_outs false wire = omega arith

  -- so the leaves are distinct
  pub constant_distinct : (wire : ℕ) → occurrences wire one + occurrences wire zero_leaves ≤ 1
  constant_distinct wire = omega (arith, constant_reads wire, range-once next (wires_of_constant ones zeros) wire)

  -- and on new wires
  pub constant_on_new : (wire : ℕ) → 1 ≤ occurrences wire one + occurrences wire zero_leaves → (number_of_wires old ≤ wire) × (wire < number_of_wires new)
  constant_on_new wire some =
      let r = range-within next (wires_of_constant ones zeros) wire (omega (arith, constant_reads wire)) in
      (r.0, omega (arith, r.1, it.wires))

  -- there are as many as readers
  pub constant_counts : (length one ≡ ones) × (length zero_leaves ≡ zeros)
  constant_counts = (by it.one_tree, omega (arith, it.zero_spreads.one_each))
    where
      by : HasTreeIfRead (ones_from next ones) next ones it.one_cells one → length one ≡ ones
      by (with_tree some t s) = s.one_each
      by (without none no_cells no_leaves) = ap length no_leaves ∙ sym none

  pub constant_driven : (wire : ℕ) → occurrences wire (driven new) ≡ occurrences wire (driven old) + occurrences wire (range_with_len next (wires_of_constant ones zeros))
  constant_driven wire =
      let a = ap (λ (net : PlainNetlist). occurrences wire (driven net)) it.added in
      let b = cells_driven old constant_cells wire in
      let c = ap (occurrences wire) constant_drives in
      omega (arith, a, b, c)

  pub constant_read : (wire : ℕ) → occurrences wire (read new) + occurrences wire one + occurrences wire zero_leaves
      ≡ occurrences wire (read old) + occurrences wire (range_with_len next (wires_of_constant ones zeros))
  constant_read wire =
      let a = ap (λ (net : PlainNetlist). occurrences wire (read net)) it.added in
      let b = cells_read old constant_cells wire in
      omega (arith, a, b, constant_reads wire)

  -- all cells stay at their places, and the constant stands behind them
  pub constant_stays : (place : ℕ) (cell : Cell) → slice_get old.cells place ≡ Some cell → slice_get new.cells place ≡ Some cell
  constant_stays place cell at = ap (λ (net : PlainNetlist). slice_get net.cells place) it.added ∙ place_stays old.cells constant_cells place cell at

  pub constant_stands : slice_get new.cells (length old.cells) ≡ Some (constant_cell next (nat_lt 0 ones) it.back)
  constant_stands = ap (λ (net : PlainNetlist). slice_get net.cells (length old.cells)) it.added ∙ place_behind old.cells (it.one_cells ++ it.zero_cells) _

  added_stands : (cell : Cell) → IsIn cell (it.one_cells ++ it.zero_cells) → IsIn cell new.cells
  added_stands cell m = subst (λ (net : PlainNetlist). IsIn cell net.cells) (sym it.added) (IsIn-right cell old.cells constant_cells (inr m))

  -- few splitters lead from the outputs to the leaves
  pub one_below : (wire : ℕ) → IsIn wire one → (splitters : ℕ) × (splitters ≤ ceil_log2 ones) × SplittersBelow new splitters next wire
  one_below wire m = by it.one_tree
    where
      by : HasTreeIfRead (ones_from next ones) next ones it.one_cells one → (splitters : ℕ) × (splitters ≤ ceil_log2 ones) × SplittersBelow new splitters next wire
      by (with_tree some t s) =
          let b = s.below wire m in
          (b.0, b.1, chain_stands (only_cells it.one_cells) new (λ cell k. added_stands cell (IsIn-left cell it.one_cells it.zero_cells k)) b.0 next wire b.2)
      by (without none no_cells no_leaves) = absurd (subst (λ (ws : List ℕ). IsIn wire ws) no_leaves m)

  pub zero_below : (wire : ℕ) → IsIn wire (it.back ∷ zero_leaves) → (splitters : ℕ) × (splitters ≤ ceil_log2 (zeros + 1)) × SplittersBelow new splitters (own_wire next ones) wire
  zero_below wire m =
      let b = it.zero_spreads.below wire m in
      (b.0, b.1, chain_stands (only_cells it.zero_cells) new (λ cell k. added_stands cell (IsIn-right cell it.one_cells it.zero_cells k)) b.0 (own_wire next ones) wire b.2)
