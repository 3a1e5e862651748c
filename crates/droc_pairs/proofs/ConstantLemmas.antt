-- What a constant and the trees of its outputs come to.
use Rattle.std.proofs.Common.{◌≡◌, ◌≤◌, ◌<◌, ◌+◌, ◌*◌, ◌-◌, ℕ, Bool, true, false, List, [], ◌∷◌, ◌++◌, length, max, slice_get, nat_lt, ap, sym, subst, ◌∙◌, refl, inl, inr, arith, append_assoc, append-nil}
use Rattle.pulse_ids.specs.Ids.{WireId, numbered}
use Rattle.pulse_ids.specs.Lists.{IsIn, ceil_log2}
use Rattle.pulse_ids.proofs.CallerLemmas.{IsIn-right}
use Rattle.cell_netlist.specs.declared.kinds.Role.TheVariants.{Const}
use Rattle.cell_netlist.specs.declared.lines.Cell.{Cell}
use Rattle.cell_netlist.specs.Netlists.{PlainNetlist, number_of_wires, with_feed, cells_with_feed, IsDrocUpTo, SplittersBelow}
use Rattle.splitter_trees.specs.Trees.{IsTree}
use Rattle.splitter_trees.specs.Spreading.{Spreads, IsSpread, with_cells, only_cells}
use Rattle.splitter_trees.proofs.CallerLemmas.{place_behind, leaf_bounds, chain_stands}
use Rattle.droc_pairs.specs.Pairs.{wires_for}
use Rattle.droc_pairs.specs.Constants.{constant_cell, own_wire, ones_from, zeros_from, HasTreeIfRead, with_tree, without, IsSpreadIfRead, spread, unspread, IsConstant}
use Rattle.droc_pairs.proofs.PairLemmas.{feed_up_to}

some_few : (asked : Bool) → wires_for asked ≤ 1
some_few true = omega arith
some_few false = omega arith

-- another feed for the first cell behind others
fed_behind : (cells more : List Cell) (cell : Cell) (wire : WireId) → cells_with_feed (length cells) wire (cells ++ cell ∷ more) ≡ cells ++ with_feed wire cell ∷ more
fed_behind [] more cell wire = refl
fed_behind (c ∷ cells) more cell wire = ap (λ (cs : List Cell). c ∷ cs) (fed_behind cells more cell wire)

-- the cells of a wire's tree, where it is read
record Grown (old new : PlainNetlist) (next from readers : ℕ) (leaves : List ℕ) : Type 0 where
  pub cells : List Cell
  pub added : new ≡ with_cells old cells
  pub tree : HasTreeIfRead next from readers cells leaves
  pub wires : number_of_wires new ≡ next + 2 * (readers - 1)

grown : (old new : PlainNetlist) (next from readers : ℕ) (leaves : List ℕ) → number_of_wires old ≡ next → IsSpreadIfRead old new from readers leaves
    → Grown old new next from readers leaves
grown old new next from readers leaves is (spread some s) = record {
  cells = s.cells;
  added = s.added;
  tree = with_tree some (subst (λ k. IsTree k from readers s.cells leaves) is s.tree) (subst (λ k. Spreads k from readers s.cells leaves) is s.spreads);
  wires = omega (arith, s.wires);
}
grown old new next from readers leaves is (unspread none same nothing) = record {
  cells = [];
  added = same ∙ sym (ap (λ (cs : List Cell). record old { cells = cs }) (append-nil old.cells));
  tree = without none refl nothing;
  wires = omega (arith, ap number_of_wires same);
}

module _ (old first middle last : PlainNetlist) (ones zeros back from own : ℕ) (one all_zeros zero_leaves : List ℕ)
    (placed : first ≡ with_cells old (constant_cell (number_of_wires old) (nat_lt 0 ones) (number_of_wires old + wires_for (nat_lt 0 ones)) ∷ []))
    (first_wires : number_of_wires first ≡ number_of_wires old + wires_for (nat_lt 0 ones) + 1)
    (from_is : from ≡ number_of_wires old) (some_ones : IsSpreadIfRead first middle from ones one)
    (own_is : own ≡ own_wire (number_of_wires old) ones) (taken : all_zeros ≡ back ∷ zero_leaves) (all_spread : IsSpread middle last own (zeros + 1) all_zeros) where
  ones_spread : IsSpreadIfRead first middle (number_of_wires old) ones one
  ones_spread = subst (λ k. IsSpreadIfRead first middle k ones one) from_is some_ones

  zeros_spread : IsSpread middle last (own_wire (number_of_wires old) ones) (zeros + 1) (back ∷ zero_leaves)
  zeros_spread = subst (λ (ws : List ℕ). IsSpread middle last (own_wire (number_of_wires old) ones) (zeros + 1) ws) taken
      (subst (λ k. IsSpread middle last k (zeros + 1) all_zeros) own_is all_spread)

  grown_ones : Grown first middle (ones_from (number_of_wires old) ones) (number_of_wires old) ones one
  grown_ones = grown first middle (ones_from (number_of_wires old) ones) (number_of_wires old) ones one first_wires ones_spread

  abbrev begun : Cell
  begun = constant_cell (number_of_wires old) (nat_lt 0 ones) (own_wire (number_of_wires old) ones)

  -- the three additions in one equation
  whole : last ≡ with_cells (with_cells (with_cells old (begun ∷ [])) grown_ones.cells) zeros_spread.cells
  whole = zeros_spread.added
      ∙ ap (λ (net : PlainNetlist). with_cells net zeros_spread.cells) (grown_ones.added ∙ ap (λ (net : PlainNetlist). with_cells net grown_ones.cells) placed)

  all_added : last.cells ≡ old.cells ++ begun ∷ (grown_ones.cells ++ zeros_spread.cells)
  all_added = ap (λ (net : PlainNetlist). net.cells) whole
      ∙ append_assoc (old.cells ++ begun ∷ []) grown_ones.cells zeros_spread.cells
      ∙ append_assoc old.cells (begun ∷ []) (grown_ones.cells ++ zeros_spread.cells)

  zero_spreads : Spreads (zeros_from (number_of_wires old) ones) (own_wire (number_of_wires old) ones) (zeros + 1) zeros_spread.cells (back ∷ zero_leaves)
  zero_spreads = subst (λ k. Spreads k (own_wire (number_of_wires old) ones) (zeros + 1) zeros_spread.cells (back ∷ zero_leaves))
      grown_ones.wires zeros_spread.spreads

  back_bounds : (own_wire (number_of_wires old) ones ≤ back) × (back < number_of_wires last)
  back_bounds =
      let b = leaf_bounds (zeros_from (number_of_wires old) ones) (own_wire (number_of_wires old) ones) (zeros + 1)
      zeros_spread.cells (back ∷ zero_leaves) (omega arith) zero_spreads back (inl refl) in
      (b.0, omega (arith, b.1, zeros_spread.wires, grown_ones.wires))

  few_wires : number_of_wires last ≡ zeros_from (number_of_wires old) ones + 2 * zeros
  few_wires = omega (arith, zeros_spread.wires, grown_ones.wires)

  -- the return is in range where there is room for all wires
  pub return_below : (most : ℕ) → number_of_wires old + 2 * (ones + zeros) + 4 ≤ most → back < most
  return_below most room = let few = some_few (nat_lt 0 ones) in omega (arith, back_bounds.1, few_wires)

  pub can_be_fed : (cell : ℕ) → cell ≡ length old.cells → IsDrocUpTo (slice_get last.cells cell) back
  can_be_fed cell is = feed_up_to last.cells cell back Const true _ _ _
      (ap (slice_get last.cells) is ∙ ap (λ (cs : List Cell). slice_get cs (length old.cells)) all_added ∙ place_behind old.cells (grown_ones.cells ++ zeros_spread.cells) begun)
      back_bounds.0

  pub is_constant : (new : PlainNetlist) (cell : ℕ) (feed : WireId) → cell ≡ length old.cells → feed.number ≡ back
      → new ≡ record last { cells = cells_with_feed cell feed last.cells } → number_of_wires new ≡ max (number_of_wires last) (feed.number + 1)
      → IsConstant old new ones zeros one zero_leaves
  is_constant new cell feed is feed_is fed wires = record {
    back = back;
    one_cells = grown_ones.cells;
    zero_cells = zeros_spread.cells;
    added = added;
    one_tree = grown_ones.tree;
    zero_tree = subst (λ k. IsTree k (own_wire (number_of_wires old) ones) (zeros + 1) zeros_spread.cells (back ∷ zero_leaves)) grown_ones.wires zeros_spread.tree;
    zero_spreads = zero_spreads;
    wires = omega (arith, wires, few_wires, back_bounds.1);
    fits = (own_wire (number_of_wires old) ones, refl, chain.0, chain_stands (only_cells zeros_spread.cells) new stands chain.0 (own_wire (number_of_wires old) ones) back chain.2);
  }
    where
      cells_are : cells_with_feed cell feed last.cells ≡ old.cells ++ constant_cell (number_of_wires old) (nat_lt 0 ones) back ∷ (grown_ones.cells ++ zeros_spread.cells)
      cells_are = ap (λ k. cells_with_feed k feed last.cells) is
          ∙ ap (λ (w : WireId). cells_with_feed (length old.cells) w last.cells) (ap (λ (k : ℕ). numbered k) feed_is)
          ∙ ap (cells_with_feed (length old.cells) (numbered back)) all_added
          ∙ fed_behind old.cells (grown_ones.cells ++ zeros_spread.cells) begun (numbered back)

      rest : last ≡ record old { cells = last.cells }
      rest = whole ∙ ap (λ (cs : List Cell). record old { cells = cs }) (sym (ap (λ (net : PlainNetlist). net.cells) whole))

      added : new ≡ with_cells old (constant_cell (number_of_wires old) (nat_lt 0 ones) back ∷ (grown_ones.cells ++ zeros_spread.cells))
      added = fed ∙ ap (λ (net : PlainNetlist). record net { cells = cells_with_feed cell feed last.cells }) rest ∙ ap (λ (cs : List Cell). record old { cells = cs }) cells_are

      chain : (splitters : ℕ) × (splitters ≤ ceil_log2 (zeros + 1)) × SplittersBelow (only_cells zeros_spread.cells) splitters (own_wire (number_of_wires old) ones) back
      chain = zero_spreads.below back (inl refl)

      stands : (c : Cell) → IsIn c zeros_spread.cells → IsIn c new.cells
      stands c m = subst (λ (net : PlainNetlist). IsIn c net.cells) (sym added)
          (IsIn-right c old.cells _ (inr (IsIn-right c grown_ones.cells zeros_spread.cells m)))
