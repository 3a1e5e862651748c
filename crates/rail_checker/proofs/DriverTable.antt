-- The table of the cells that drive wires, and the list that is made of it.
use Rattle.std.proofs.Common.{◌≡◌, ℕ, ◌+◌, ◌<◌, ◌≤◌, inl, inr, List, [], ◌∷◌, length, get_or, Some, None, slice_get, replicate, Bool, true, false, cond, nat_lt, refl, sym, ap, subst, ◌∙◌, arith}
use Rattle.std.proofs.Common.{ltb-true}
use Rattle.std.specs.List.{filter}
use Rattle.std.proofs.lemmas.Bool.{cases_eq, lt-ltb}
use Rattle.std.proofs.lemmas.List.{length-replicate}
use Rattle.std.proofs.lemmas.List.Sums.{length-filter, count_by-le-length}
use Rattle.std.proofs.lemmas.Option.{slice_get-map, slice_get-get_or, slice_get_within, get_or_from_slice_get}
use Rattle.pulse_ids.specs.Ids.{CellId, numbered}
use Rattle.pulse_ids.specs.Lists.{IsIn}
use Rattle.pulse_ids.specs.Quantities.{greatest_of}
use Rattle.pulse_ids.specs.declared.quantities.Quantity.TheVariants.{Wires}
use Rattle.pulse_ids.proofs.CallerLemmas.{IsIn-at, IsIn-place, place_of, IsIn-map, IsIn-from_map}
use Rattle.cell_netlist.specs.declared.lines.Cell.{Cell}
use Rattle.cell_netlist.specs.declared.lines.Cell.TheVariants.{La, Fa, Split, Droc}
use Rattle.cell_netlist.specs.Netlists.{PlainNetlist, outs, number_of_wires}
use Rattle.cell_netlist.specs.Wired.{IsWired}
use Rattle.cell_netlist.proofs.CallerLemmas.{named_below, driving_cell-is}
use Rattle.rail_checker.specs.DrivingCells.{cell_of, cells_of, HoldsDrivers, ShowsDrivers, first_out, driver_at}
use Rattle.rail_checker.specs.Tables.{with_at}
use Rattle.rail_checker.proofs.TableSteps.{at_width, at_place, off_place, place_or_not}

-- a cell drives the first wire that it drives
pub first_driven : (cell : Cell) (wire : ℕ) → first_out cell ≡ Some wire → IsIn wire (outs cell)
first_driven (La a b out) wire e = inl cc
first_driven (Fa a b out) wire e = inl cc
first_driven (Split from left right) wire e = inl cc
first_driven (Droc role preload feed None None) wire e = absurd cc
first_driven (Droc role preload feed None (Some n)) wire e = inl cc
first_driven (Droc role preload feed (Some q) n) wire e = inl cc

-- a cell that drives a wire drives a first one
has_first : (cell : Cell) (wire : ℕ) → IsIn wire (outs cell) → (first : ℕ) × (first_out cell ≡ Some first)
has_first (La a b out) wire i = (out.number, refl)
has_first (Fa a b out) wire i = (out.number, refl)
has_first (Split from left right) wire i = (left.number, refl)
has_first (Droc role preload feed None None) wire i = absurd i
has_first (Droc role preload feed None (Some n)) wire i = (n.number, refl)
has_first (Droc role preload feed (Some q) n) wire i = (q.number, refl)

-- an item that passes the test is among those that do, and what is among them passes it
pub in_filter : {X : Type 0} (test : X → Bool) (x : X) (xs : List X) → IsIn x xs → test x ≡ true → IsIn x (filter test xs)
in_filter test x [] i t = absurd i
in_filter test x (y ∷ xs) i t = go (test y) refl i (λ j. in_filter test x xs j t)
  where
    go : (b : Bool) → test y ≡ b → IsIn x (y ∷ xs) → (IsIn x xs → IsIn x (filter test xs)) → IsIn x (cond b (y ∷ filter test xs) (filter test xs))
    go true e (inl same) rest = inl same
    go true e (inr j) rest = inr (rest j)
    go false e (inl same) rest = let passed : test y ≡ true = ap test same ∙ t in absurd cc
    go false e (inr j) rest = rest j

pub filter_in : {X : Type 0} (test : X → Bool) (x : X) (xs : List X) → IsIn x (filter test xs) → test x ≡ true
filter_in test x [] i = absurd i
filter_in test x (y ∷ xs) i = go (test y) refl i (λ j. filter_in test x xs j)
  where
    go : (b : Bool) → test y ≡ b → IsIn x (cond b (y ∷ filter test xs) (filter test xs)) → (IsIn x (filter test xs) → test x ≡ true) → test x ≡ true
    go true e (inl same) rest = ap test (sym same) ∙ e
    go true e (inr j) rest = rest j
    go false e j rest = rest j

module _ (net : PlainNetlist) where
  -- before the first cell the table shows none
  pub none_shown : (count : ℕ) (id : CellId) → count ≡ number_of_wires net → ShowsDrivers net 0 (replicate count id)
  none_shown count id e = record { width = length-replicate {A = CellId} count id ∙ e; shown = λ number cell wire lt. absurd (omega arith) }

  -- a cell is put at its first output
  module _ (wired : IsWired net) (i : ℕ) (cell : Cell) (at : slice_get net.cells i ≡ Some cell) (id : CellId) (its : id.number ≡ i) (table : List CellId) (s : ShowsDrivers net i table) where
    among : IsIn cell net.cells
    among = IsIn-place cell net.cells i at

    pub out_low : (wire : ℕ) → IsIn wire (outs cell) → wire < length table
    out_low wire o = omega (arith, s.width, (named_below net).of_outs cell among wire o)

    here : (wire : ℕ) → first_out cell ≡ Some wire → driver_at (with_at table (first_out cell) id) wire ≡ i
    here wire e = ap (λ (c : CellId). c.number) (at_place table (first_out cell) id (numbered 0) wire e (out_low wire (first_driven cell wire e))) ∙ its

    earlier : (number : ℕ) (other : Cell) (wire : ℕ) → number < i → slice_get net.cells number ≡ Some other → first_out other ≡ Some wire
        → driver_at (with_at table (first_out cell) id) wire ≡ number
    earlier number other wire lt o e = elim (place_or_not (first_out cell) wire) [
      | inl same ↦ here wire same ∙ (driving_cell-is net wired wire i number cell other at o (first_driven cell wire same) (first_driven other wire e)).0
      | inr ne ↦ ap (λ (c : CellId). c.number) (off_place table (first_out cell) id (numbered 0) wire ne) ∙ s.shown number other wire lt o e
    ]

    pub one_more_shown : ShowsDrivers net (i + 1) (with_at table (first_out cell) id)
    one_more_shown = record {
      width = at_width table (first_out cell) id ∙ s.width;
      shown = λ number other wire lt o e. elim (cases_eq number i) [
        | inr ne ↦ earlier number other wire (omega arith) o e
        | inl same ↦
            let found : slice_get net.cells i ≡ Some other = subst (λ k. slice_get net.cells k ≡ Some other) same o in
            let one : other ≡ cell = cc in
            here wire (ap first_out (sym one) ∙ e) ∙ sym same
      ];
    }

  -- the numbers of cells in the table of all are those of the cells that drive wires
  module _ (table : List CellId) (s : ShowsDrivers net (length net.cells) table) where
    abbrev is_cell : CellId → Bool
    is_cell id = nat_lt id.number (length net.cells)

    all_held : (cell : Cell) → IsIn cell net.cells → (wire : ℕ) → IsIn wire (outs cell) → IsIn cell (cells_of net (filter is_cell table))
    all_held cell i wire o =
        let at = place_of cell net.cells i in
        let first = has_first cell wire o in
        let low : at.0 < length net.cells = slice_get_within net.cells at.0 cell at.1 in
        let shown : driver_at table first.0 ≡ at.0 = s.shown at.0 cell first.0 low at.1 first.1 in
        let id : CellId = get_or table first.0 (numbered 0) in
        let within : first.0 < length table = omega (arith, s.width, (named_below net).of_outs cell i first.0 (first_driven cell first.0 first.1)) in
        let kept : IsIn id (filter is_cell table) = in_filter is_cell id table (IsIn-at table first.0 (numbered 0) within) (lt-ltb _ _ (omega (arith, shown, low))) in
        let same : cell_of net id ≡ cell =
        ap (λ k. get_or net.cells k (Split (numbered 0) (numbered 0) (numbered 0))) shown ∙ get_or_from_slice_get net.cells at.0 cell (Split (numbered 0) (numbered 0) (numbered 0)) at.1 in
        subst (λ c. IsIn c (cells_of net (filter is_cell table))) same (IsIn-map (cell_of net) id (filter is_cell table) kept)

    pub drivers_held : number_of_wires net ≤ greatest_of Wires → HoldsDrivers net (filter is_cell table)
    drivers_held few = record {
      within = λ id i. ltb-true _ _ (filter_in is_cell id table i);
      all = all_held;
      few = omega (arith, few, s.width, length-filter is_cell table, count_by-le-length is_cell table);
    }

  -- the cells of a list of such numbers
  module _ (drivers : List CellId) (holds : HoldsDrivers net drivers) where
    -- each is a cell of the netlist
    pub cell_among : (cell : Cell) → IsIn cell (cells_of net drivers) → IsIn cell net.cells
    cell_among cell i =
        let r = IsIn-from_map (cell_of net) cell drivers i in
        subst (λ c. IsIn c net.cells) r.2 (IsIn-at net.cells r.0.number (Split (numbered 0) (numbered 0) (numbered 0)) (holds.within r.0 r.1))

    -- the number at a place, and its cell
    pub number_here : (i : ℕ) → i < length drivers → (get_or drivers i (numbered 0)).number < length net.cells
    number_here i lt = holds.within (get_or drivers i (numbered 0)) (IsIn-at drivers i (numbered 0) lt)

    pub cell_here : (i : ℕ) → i < length drivers → (cells : List Cell) → cells ≡ net.cells → (cell : Cell) → slice_get cells (get_or drivers i (numbered 0)).number ≡ Some cell
        → slice_get (cells_of net drivers) i ≡ Some cell
    cell_here i lt cells same cell found =
        let at : slice_get drivers i ≡ Some (get_or drivers i (numbered 0)) = slice_get-get_or drivers i (numbered 0) lt in
        let its : cell_of net (get_or drivers i (numbered 0)) ≡ cell =
        get_or_from_slice_get net.cells (get_or drivers i (numbered 0)).number cell (Split (numbered 0) (numbered 0) (numbered 0))
        (subst (λ l. slice_get l (get_or drivers i (numbered 0)).number ≡ Some cell) same found) in
        slice_get-map (cell_of net) drivers i ∙ rw at (ap Some its)
