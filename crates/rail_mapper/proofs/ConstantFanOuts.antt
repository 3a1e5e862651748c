-- A constant with its trees leaves wires no deeper below splitters than they may stand.
use Rattle.std.proofs.Common.{◌≡◌, ◌≤◌, ◌<◌, ◌+◌, ◌*◌, ◌-◌, inl, inr, ℕ, Bool, true, false, List, [], ◌∷◌, ◌++◌, nat_lt, ap, sym, subst, ◌∙◌, refl, arith, append_assoc, append-nil}
use Rattle.std.specs.List.{flat_map}
use Rattle.std.proofs.lemmas.Bool.{lt-ltb}
use Rattle.pulse_ids.specs.Lists.{IsIn}
use Rattle.pulse_ids.proofs.CallerLemmas.{IsIn-append}
use Rattle.cell_netlist.specs.declared.lines.Cell.{Cell}
use Rattle.cell_netlist.specs.Netlists.{PlainNetlist, outs, driven, number_of_wires, HasSplitter}
use Rattle.cell_netlist.proofs.CallerLemmas.{cells_add}
use Rattle.cell_netlist.proofs.CallerLemmasOnDrivers.{driven-below}
use Rattle.splitter_trees.specs.Spreading.{Spreads, with_cells}
use Rattle.wire_ledgers.proofs.CallerLemmasOnRanges.{in_range}
use Rattle.droc_pairs.specs.Pairs.{wires_for}
use Rattle.droc_pairs.specs.Constants.{constant_cell, own_wire, ones_from, zeros_from, HasTreeIfRead, with_tree, without, IsConstant}
use Rattle.rail_mapper.specs.FanOuts.{AreFannedOut}
use Rattle.rail_mapper.proofs.FanOuts.{split_from_below, cell_fanned_out, IsBare, tree_fanned_out, bare_kept}
use Rattle.rail_mapper.proofs.FanOutCells.{cell_splitters, new_bare}
use Rattle.rail_mapper.proofs.TreeWires.{new_from}

-- all that drives, and all that splitters read, is below a number
record IsBelow (net : PlainNetlist) (bound : ℕ) : Type 0 where
  driven_low : (wire : ℕ) → IsIn wire (driven net) → wire < bound
  split_low : (from to : ℕ) → HasSplitter net from to → from < bound

tree_below : (net : PlainNetlist) (next root readers : ℕ) (cells : List Cell) (leaves : List ℕ) → Spreads next root readers cells leaves → IsBelow net next → root < next
    → IsBelow (with_cells net cells) (next + 2 * (readers - 1))
tree_below net next root readers cells leaves tree low root_low = record {
  driven_low = λ wire m. elim (IsIn-append wire (driven net) (flat_map outs cells) (subst (λ (l : List ℕ). IsIn wire l) (cells_add net cells).driven_behind m)) [
    | inl old ↦ let b = low.driven_low wire old in omega arith
    | inr new ↦ (in_range next (2 * (readers - 1)) wire (subst (λ (l : List ℕ). IsIn wire l) tree.drives new)).1
  ];
  split_low = λ from to s. elim (((cells_add net cells).splitters from to).0 s) [
    | inl old ↦ let b = low.split_low from to old in omega arith
    | inr new ↦ elim (new_from next root readers cells leaves tree from to new) [ inl e ↦ omega arith | inr far ↦ far.1 ]
  ];
}

module _ (old new : PlainNetlist) (ones zeros : ℕ) (one zero_leaves : List ℕ) (it : IsConstant old new ones zeros one zero_leaves) where
  abbrev next : ℕ
  next = number_of_wires old

  abbrev own : ℕ
  own = own_wire next ones

  abbrev cell : Cell
  cell = constant_cell next (nat_lt 0 ones) it.back

  abbrev placed : PlainNetlist
  placed = with_cells old (cell ∷ [])

  abbrev middle : PlainNetlist
  middle = with_cells placed it.one_cells

  -- the cell's wires
  cell_out : (b : Bool) (wire : ℕ) → IsIn wire (outs (constant_cell next b it.back)) → (next ≤ wire) × (wire ≤ next + wires_for b)
  cell_out true wire (inl e) = (omega arith, omega arith)
  cell_out true wire (inr (inl e)) = (omega arith, omega arith)
  cell_out true wire (inr (inr m)) = absurd m
  cell_out false wire (inl e) = (omega arith, omega arith)
  cell_out false wire (inr m) = absurd m

  own_out : (b : Bool) → IsIn (next + wires_for b) (outs (constant_cell next b it.back))
  own_out true = inr (inl refl)
  own_out false = inl refl

  one_out : (b : Bool) → b ≡ true → IsIn next (outs (constant_cell next b it.back))
  one_out true e = inl refl
  one_out false e = absurd cc

  own_bare : IsBare placed own
  own_bare = new_bare old cell (λ from to s. s) own (own_out (nat_lt 0 ones)) (omega arith)

  one_bare : 1 ≤ ones → IsBare placed next
  one_bare some = new_bare old cell (λ from to s. s) next (one_out (nat_lt 0 ones) (lt-ltb 0 ones some)) (omega arith)

  placed_fanned_out : AreFannedOut old → AreFannedOut placed
  placed_fanned_out h = cell_fanned_out old cell (λ from to s. s) (λ wire m. (cell_out (nat_lt 0 ones) wire m).0) h

  placed_below : IsBelow placed (ones_from next ones)
  placed_below = record {
    driven_low = λ wire m. elim (IsIn-append wire (driven old) (flat_map outs (cell ∷ [])) (subst (λ (l : List ℕ). IsIn wire l) (cells_add old (cell ∷ [])).driven_behind m)) [
      | inl was ↦ let b = driven-below old wire was in omega arith
      | inr its ↦ elim (IsIn-append wire (outs cell) [] its) [ inl k ↦ let b = (cell_out (nat_lt 0 ones) wire k).1 in omega arith | inr k ↦ absurd k ]
    ];
    split_low = λ from to s. let b = split_from_below old from to (cell_splitters old cell (λ f t k. k) from to s) in omega arith;
  }

  record IsHalfway : Type 0 where
    fanned_out : AreFannedOut old → AreFannedOut middle
    below : IsBelow middle (zeros_from next ones)
    its_own : IsBare middle own

  halfway : HasTreeIfRead (ones_from next ones) next ones it.one_cells one → IsHalfway
  halfway (with_tree some tree spreads) = record {
    fanned_out = λ h. tree_fanned_out placed (ones_from next ones) next ones it.one_cells one spreads placed_below.driven_low placed_below.split_low (one_bare some) (placed_fanned_out h);
    below = tree_below placed (ones_from next ones) next ones it.one_cells one spreads placed_below (omega arith);
    its_own = bare_kept placed (ones_from next ones) next ones it.one_cells one spreads placed_below.driven_low placed_below.split_low (one_bare some) own own_bare
        (λ e. let k : wires_for (nat_lt 0 ones) ≡ 1 = ap wires_for (lt-ltb 0 ones some) in absurd (omega arith));
  }
  halfway (without none no_cells no_leaves) =
      let same : with_cells placed [] ≡ middle = ap (λ (l : List Cell). with_cells placed l) (sym no_cells) in record {
        fanned_out = λ h. subst AreFannedOut (unchanged ∙ same) (placed_fanned_out h);
        below = subst (λ (n : PlainNetlist). IsBelow n (zeros_from next ones)) (unchanged ∙ same) (record {
          driven_low = λ wire m. let b = placed_below.driven_low wire m in omega arith;
          split_low = λ from to s. let b = placed_below.split_low from to s in omega arith;
        });
        its_own = subst (λ (n : PlainNetlist). IsBare n own) (unchanged ∙ same) own_bare;
      }
    where
      unchanged : placed ≡ with_cells placed []
      unchanged = ap (λ (l : List Cell). record placed { cells = l }) (sym (append-nil placed.cells))

  pub constant_fanned_out : AreFannedOut old → AreFannedOut new
  constant_fanned_out h =
      let half = halfway it.one_tree in
      subst AreFannedOut (sym parts) (tree_fanned_out middle (zeros_from next ones) own (zeros + 1) it.zero_cells (it.back ∷ zero_leaves) it.zero_spreads
      half.below.driven_low half.below.split_low half.its_own (half.fanned_out h))
    where
      parts : new ≡ with_cells middle it.zero_cells
      parts = it.added ∙ ap (λ (l : List Cell). record old { cells = l })
          (sym (append_assoc (old.cells ++ cell ∷ []) it.one_cells it.zero_cells ∙ append_assoc old.cells (cell ∷ []) (it.one_cells ++ it.zero_cells)))
