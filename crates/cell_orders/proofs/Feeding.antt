-- The LA, FA and splitter cells among the drivers of a wire.
use Rattle.std.proofs.Common.{◌≡◌, ◌<◌, ℕ, zero, suc, inl, inr, Option, Some, None, List, [], ◌∷◌, length, slice_get, refl, sym, ap, subst, arith}
use Rattle.std.specs.Prelude.{option_and_then}
use Rattle.pulse_ids.specs.Ids.{WireId, CellId, numbered}
use Rattle.pulse_ids.specs.Lists.{IsIn}
use Rattle.pulse_ids.proofs.CallerLemmas.{IsIn-flat_map, IsIn-from_flat_map}
use Rattle.cell_netlist.specs.declared.lines.Cell.{Cell}
use Rattle.cell_netlist.specs.declared.lines.Cell.TheVariants.{La, Fa, Split, Droc}
use Rattle.cell_netlist.specs.declared.lines.Driver.{Driver}
use Rattle.cell_netlist.specs.declared.lines.Driver.TheVariants.{Input, Out, Left, Right, Q, N}
use Rattle.cell_netlist.specs.Netlists.{PlainNetlist, outs, IsDroc}
use Rattle.cell_netlist.specs.Places.{drivers, IsDriverOf, output_at, output_of, wire_driven_at}
use Rattle.cell_netlist.proofs.CallerLemmas.{driver-is, out-driver, driving_cell-is}
use Rattle.cell_netlist.specs.Wired.{IsWired}
use Rattle.cell_orders.specs.PassingCells.{IsPassing, Drives}
use Rattle.cell_orders.specs.Needs.{passing_at, feeding}

-- two cells at one place are the same
pub same_cell : (net : PlainNetlist) (c : ℕ) {x y : Cell} → slice_get net.cells c ≡ Some x → slice_get net.cells c ≡ Some y → x ≡ y
same_cell net c e f = cc

-- a cell with an output that LA, FA and splitter cells alone have
abbrev HasOut : Cell → ℕ → Type 0
HasOut cell wire = (IsDroc cell → ⊥) × IsIn wire (outs cell)

out_at : (cell : Cell) (id : CellId) (wire : WireId) → output_at cell (Out id) ≡ Some wire → HasOut cell wire.number
out_at (La a b out) id wire e = let s : out ≡ wire = cc in (λ h. h, inl (ap (λ w. w.number) s))
out_at (Fa a b out) id wire e = let s : out ≡ wire = cc in (λ h. h, inl (ap (λ w. w.number) s))
out_at (Split from left right) id wire e = absurd cc
out_at (Droc role preload feed q n) id wire e = absurd cc

left_at : (cell : Cell) (id : CellId) (wire : WireId) → output_at cell (Left id) ≡ Some wire → HasOut cell wire.number
left_at (La a b out) id wire e = absurd cc
left_at (Fa a b out) id wire e = absurd cc
left_at (Split from left right) id wire e = let s : left ≡ wire = cc in (λ h. h, inl (ap (λ w. w.number) s))
left_at (Droc role preload feed q n) id wire e = absurd cc

right_at : (cell : Cell) (id : CellId) (wire : WireId) → output_at cell (Right id) ≡ Some wire → HasOut cell wire.number
right_at (La a b out) id wire e = absurd cc
right_at (Fa a b out) id wire e = absurd cc
right_at (Split from left right) id wire e = let s : right ≡ wire = cc in (λ h. h, inr (inl (ap (λ w. w.number) s)))
right_at (Droc role preload feed q n) id wire e = absurd cc

-- the cell of an output that some cell has
cell_of : (place : Driver) (wire : WireId) (found : Option Cell) → option_and_then (λ cell. output_at cell place) found ≡ Some wire
    → (cell : Cell) × (found ≡ Some cell) × (output_at cell place ≡ Some wire)
cell_of place wire None e = absurd cc
cell_of place wire (Some cell) e = (cell, refl, e)

-- only a DROC has an output `q` or `n`
no_q : (cell : Cell) (id : CellId) (wire : WireId) → (IsDroc cell → ⊥) → output_at cell (Q id) ≡ Some wire → ⊥
no_q (La a b out) id wire k e = cc
no_q (Fa a b out) id wire k e = cc
no_q (Split from left right) id wire k e = cc
no_q (Droc role preload feed q n) id wire k e = k tt

no_n : (cell : Cell) (id : CellId) (wire : WireId) → (IsDroc cell → ⊥) → output_at cell (N id) ≡ Some wire → ⊥
no_n (La a b out) id wire k e = cc
no_n (Fa a b out) id wire k e = cc
no_n (Split from left right) id wire k e = cc
no_n (Droc role preload feed q n) id wire k e = k tt

place_in_cells : (cells : List Cell) (c : ℕ) (cell : Cell) → slice_get cells c ≡ Some cell → c < length cells
place_in_cells [] c cell e = absurd cc
place_in_cells (x ∷ cells) zero cell e = omega arith
place_in_cells (x ∷ cells) (suc c) cell e = let r = place_in_cells cells c cell e in omega arith

module _ (net : PlainNetlist) where
  pub passing_below : (c : ℕ) → IsPassing net c → c < length net.cells
  passing_below c p = place_in_cells net.cells c p.cell p.at

  pub at_below : (c : ℕ) (cell : Cell) → slice_get net.cells c ≡ Some cell → c < length net.cells
  at_below c cell e = place_in_cells net.cells c cell e

  module _ (c wire : ℕ) where
    drives_at : (id : ℕ) (place : Driver) → ((cell : Cell) → output_at cell place ≡ Some (numbered wire) → HasOut cell wire) → id ≡ c
        → output_of net.cells id place ≡ Some (numbered wire) → Drives net c wire
    drives_at id place has same on =
        let found = cell_of place (numbered wire) (slice_get net.cells id) on in
        let out = has found.0 found.2 in
        record { passing = record { cell = found.0; at = subst (λ k. slice_get net.cells k ≡ Some found.0) same found.1; kind = out.0 }; out = out.1 }

    at_place : (place : Driver) → IsIn c (passing_at place) → wire_driven_at net place ≡ Some (numbered wire) → Drives net c wire
    at_place (Input id) i on = absurd i
    at_place (Out id) (inl e) on = drives_at id.number (Out id) (λ cell k. out_at cell id (numbered wire) k) e on
    at_place (Out id) (inr i) on = absurd i
    at_place (Left id) (inl e) on = drives_at id.number (Left id) (λ cell k. left_at cell id (numbered wire) k) e on
    at_place (Left id) (inr i) on = absurd i
    at_place (Right id) (inl e) on = drives_at id.number (Right id) (λ cell k. right_at cell id (numbered wire) k) e on
    at_place (Right id) (inr i) on = absurd i
    at_place (Q id) i on = absurd i
    at_place (N id) i on = absurd i

    -- what feeds a wire drives it
    pub feeding_drives : IsIn c (feeding net wire) → Drives net c wire
    feeding_drives i =
        let from = IsIn-from_flat_map passing_at c (drivers net wire) i in
        at_place from.0 from.2 ((driver-is net (numbered wire) from.0).0 from.1)

    passing_in : (d : Drives net c wire) (place : Driver) → IsDriverOf place c → wire_driven_at net place ≡ Some (numbered wire) → IsIn c (passing_at place)
    passing_in d (Input id) own on = absurd own
    passing_in d (Out id) own on = inl own
    passing_in d (Left id) own on = inl own
    passing_in d (Right id) own on = inl own
    passing_in d (Q id) own on =
        let found = cell_of (Q id) (numbered wire) (slice_get net.cells id.number) on in
        let there : slice_get net.cells c ≡ Some found.0 = subst (λ k. slice_get net.cells k ≡ Some found.0) own found.1 in
        let same : found.0 ≡ d.passing.cell = cells_same there d.passing.at in
        absurd (no_q found.0 id (numbered wire) (λ k. d.passing.kind (subst IsDroc same k)) found.2)
      where
        cells_same : {x y : Cell} → slice_get net.cells c ≡ Some x → slice_get net.cells c ≡ Some y → x ≡ y
        cells_same e f = cc
    passing_in d (N id) own on =
        let found = cell_of (N id) (numbered wire) (slice_get net.cells id.number) on in
        let there : slice_get net.cells c ≡ Some found.0 = subst (λ k. slice_get net.cells k ≡ Some found.0) own found.1 in
        let same : found.0 ≡ d.passing.cell = cells_same there d.passing.at in
        absurd (no_n found.0 id (numbered wire) (λ k. d.passing.kind (subst IsDroc same k)) found.2)
      where
        cells_same : {x y : Cell} → slice_get net.cells c ≡ Some x → slice_get net.cells c ≡ Some y → x ≡ y
        cells_same e f = cc

    -- what drives a wire feeds it
    pub drives_feeding : Drives net c wire → IsIn c (feeding net wire)
    drives_feeding d =
        let found = out-driver net (numbered wire) c d.passing.cell d.passing.at d.out in
        IsIn-flat_map passing_at c found.0 (drivers net wire) ((driver-is net (numbered wire) found.0).1 found.2) (passing_in d found.0 found.1 found.2)

  pub fed_below : (wire c : ℕ) → feeding net wire ≡ c ∷ [] → c < length net.cells
  fed_below wire c e = passing_below c (feeding_drives c wire (subst (λ l. IsIn c l) (sym e) (inl refl))).passing

  -- where no wire is driven twice one cell drives it
  pub one_drives : IsWired net → (wire c d : ℕ) → Drives net c wire → Drives net d wire → c ≡ d
  one_drives wired wire c d p q =
      (driving_cell-is net wired wire c d p.passing.cell q.passing.cell p.passing.at q.passing.at p.out q.out).0
