-- Cells, trees and feeds leave wires no deeper below splitters than they may stand.
use Rattle.std.proofs.Common.{◌≤◌, ◌≡◌, inl, inr, ℕ, Bool, List, [], ◌∷◌, ◌++◌, map, ap, sym, subst, ◌∙◌, arith}
use Rattle.std.specs.List.{flat_map}
use Rattle.pulse_ids.specs.Ids.{numbered}
use Rattle.pulse_ids.specs.Lists.{IsIn}
use Rattle.pulse_ids.proofs.CallerLemmas.{IsIn-right, IsIn-left}
use Rattle.cell_netlist.specs.declared.lines.Rail.{Rail}
use Rattle.cell_netlist.specs.declared.lines.Cell.{Cell}
use Rattle.cell_netlist.specs.Netlists.{PlainNetlist, wire_of, outs, driven, number_of_wires, Splits, HasSplitter}
use Rattle.cell_netlist.specs.WireLaws.{LeavesRest}
use Rattle.cell_netlist.proofs.CallerLemmas.{cells_add, leaves_rest}
use Rattle.cell_netlist.proofs.CallerLemmasOnDrivers.{driven-below}
use Rattle.splitter_trees.specs.Spreading.{IsSpread, with_cells}
use Rattle.droc_pairs.specs.Pairs.{front_of, with_front}
use Rattle.rail_mapper.specs.FanOuts.{AreFannedOut}
use Rattle.rail_mapper.proofs.FanOuts.{alone, split_from_below, fresh_top, fresh_end, same_fanned_out, cell_fanned_out, IsBare, tree_fanned_out, bare_kept}

-- a cell that is no splitter adds none
pub cell_splitters : (net : PlainNetlist) (cell : Cell) → ((from to : ℕ) → Splits cell from to → ⊥) → (from to : ℕ) → HasSplitter (with_cells net (cell ∷ [])) from to
    → HasSplitter net from to
cell_splitters net cell none from to s = elim (((cells_add net (cell ∷ [])).splitters from to).0 s) [
  | inl old ↦ old
  | inr (other, inl e, k) ↦ absurd (none from to (subst (λ (c : Cell). Splits c from to) (sym e) k))
  | inr (other, inr m, k) ↦ absurd m
]

-- a wire that is to come, which it drives, is bare then
pub new_bare : (net : PlainNetlist) (cell : Cell) → ((from to : ℕ) → Splits cell from to → ⊥) → (wire : ℕ) → IsIn wire (outs cell) → number_of_wires net ≤ wire
    → IsBare (with_cells net (cell ∷ [])) wire
new_bare net cell none wire m far = record {
  there = subst (λ (l : List ℕ). IsIn wire l) (sym (cells_add net (cell ∷ [])).driven_behind)
      (IsIn-right wire (driven net) (flat_map outs (cell ∷ [])) (IsIn-left wire (outs cell) [] m));
  top = λ from s. fresh_top net wire far from (cell_splitters net cell none from wire s);
  end = λ to s. fresh_end net wire far to (cell_splitters net cell none wire to s);
}

-- a bare wire is spread
module _ (old new : PlainNetlist) (root readers : ℕ) (leaves : List ℕ) (it : IsSpread old new root readers leaves) (is : IsBare old root) where
  pub spread_fanned_out : AreFannedOut old → AreFannedOut new
  spread_fanned_out h =
      subst AreFannedOut (sym it.added)
      (tree_fanned_out old (number_of_wires old) root readers it.cells leaves it.spreads (λ wire m. driven-below old wire m) (split_from_below old) is h)

  pub spread_bare : (wire : ℕ) → IsBare old wire → (root ≡ wire → ⊥) → IsBare new wire
  spread_bare wire its other =
      subst (λ (net : PlainNetlist). IsBare net wire) (sym it.added)
      (bare_kept old (number_of_wires old) root readers it.cells leaves it.spreads (λ w m. driven-below old w m) (split_from_below old) is wire its other)

-- a front, which feeds its back
pub front_fanned_out : (net : PlainNetlist) (place : ℕ) (init : Bool) (taken : ℕ) → AreFannedOut net → AreFannedOut (with_front net place init taken)
front_fanned_out net place init taken h =
    same_fanned_out longer (with_front net place init taken) (λ from to s. (rest.same_splitters from to).1 s) (λ from to s. (rest.same_splitters from to).0 s)
    (λ wire m. subst (λ (l : List ℕ). IsIn wire l) (sym rest.same_driven) m) (λ wire m. inl (subst (λ (l : List ℕ). IsIn wire l) rest.same_driven m))
    (cell_fanned_out net front (λ from to s. s) far h)
  where
    front : Cell
    front = front_of init taken (number_of_wires net)

    longer : PlainNetlist
    longer = with_cells net (front ∷ [])

    rest : LeavesRest longer (with_front net place init taken) place (numbered (number_of_wires net))
    rest = leaves_rest (numbered (number_of_wires net)) longer place

    far : (wire : ℕ) → IsIn wire (number_of_wires net ∷ []) → number_of_wires net ≤ wire
    far wire (inl e) = omega arith
    far wire (inr m) = absurd m

-- a netlist with no cells
pub bare_fanned_out : (net : PlainNetlist) → net.cells ≡ [] → AreFannedOut net
bare_fanned_out net e wire d end = alone net wire d (λ from s. none s.0 s.1) end
  where
    none : (cell : Cell) → IsIn cell net.cells → ⊥
    none cell m = subst (λ (l : List Cell). IsIn cell l) e m

-- other output rails
pub kept_fanned_out : (net after : PlainNetlist) → after.cells ≡ net.cells → after.input_rails ≡ net.input_rails → AreFannedOut net → AreFannedOut after
kept_fanned_out net after same rails h =
    same_fanned_out net after (λ from to s. (s.0, subst (λ (l : List Cell). IsIn s.0 l) (sym same) s.1, s.2)) (λ from to s. (s.0, subst (λ (l : List Cell). IsIn s.0 l) same s.1, s.2))
    (λ wire m. subst (λ (l : List ℕ). IsIn wire l) (sym is) m) (λ wire m. inl (subst (λ (l : List ℕ). IsIn wire l) is m)) h
  where
    is : driven after ≡ driven net
    is = ap (λ (l : List Rail). map wire_of l ++ flat_map outs after.cells) rails ∙ ap (λ (l : List Cell). map wire_of net.input_rails ++ flat_map outs l) same
