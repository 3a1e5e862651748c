-- The table of roots, cell by cell in grounded order.
use Rattle.std.proofs.Common.{◌≡◌, ◌≢◌, ℕ, suc, ◌+◌, ◌<◌, ◌≤◌, ◌⊎◌, inl, inr, List, [], ◌∷◌, length, Some, slice_get, get_or, set, take, map, false, refl, sym, ap, subst, ◌∙◌, arith, Contains}
use Rattle.std.specs.Prelude.{slice_index}
use Rattle.std.specs.List.{flat_map}
use Rattle.std.proofs.lemmas.Bool.{cases_eq, cases_Bool}
use Rattle.std.proofs.lemmas.List.{get_or-set_same, get_or-set_other, length-set, length-map, take_more, take_all}
use Rattle.pulse_ids.specs.Ids.{CellId, WireId, numbered}
use Rattle.pulse_ids.specs.Lists.{IsIn}
use Rattle.pulse_ids.proofs.CallerLemmas.{IsIn-append, IsIn-behind, IsIn-place, place_of, IsIn-from_map, IsIn-flat_map, IsIn-from_flat_map, IsIn-contained, contained-IsIn}
use Rattle.pulse_ids.proofs.CallerLemmasOnCounts.{occurrences-append, IsIn-occurrences, occurrences-IsIn}
use Rattle.cell_netlist.specs.declared.lines.Cell.{Cell}
use Rattle.cell_netlist.specs.declared.lines.Cell.TheVariants.{La, Fa, Split, Droc}
use Rattle.cell_netlist.specs.declared.unsound.Unsound.TheVariants.{Loop}
use Rattle.cell_netlist.specs.Netlists.{PlainNetlist, wire_of, outs, driven, number_of_wires, Splits, HasSplitter, IsRoot, Grounded, of_rail, of_droc}
use Rattle.cell_netlist.proofs.CallerLemmas.{named_below, driven_once, driving_cell-is, Splits-out, SplittersBelow-one_more}
use Rattle.dependency_order.specs.Dependencies.{needs_of, yields_of}
use Rattle.dependency_order.specs.Orders.{PlainOrder, IsOrderOf, IsKnown}
use Rattle.dependency_order.proofs.CallerLemmas.{reached_is_known}
use Rattle.cell_netlist.specs.Wired.{IsWired}
use Rattle.rail_checker.specs.DrivingCells.{cell_of, cells_of, HoldsDrivers}
use Rattle.rail_checker.specs.Needs.{needs_of_cell, dependencies_of}
use Rattle.rail_checker.specs.Tables.{root_at, with_roots, AreOwn, AreRoots}
use Rattle.rail_checker.specs.Verdicts.{IsClear}
use Rattle.rail_checker.proofs.Refusing.{wired}
use Rattle.rail_checker.proofs.DriverTable.{cell_among}
use Rattle.rail_checker.proofs.CellNeeds.{lists_at, droc_or_not, reached_of}
use Rattle.rail_checker.proofs.LooseCells.{known_grounded, unknown_loose}

pub own_more : (roots : List WireId) (wire place : ℕ) (value : WireId) (after : List WireId) → after ≡ set roots place value → place ≡ wire → value.number ≡ wire → wire < length roots
    → ((w : ℕ) → w < wire → root_at roots w ≡ w) → (w : ℕ) → w < wire + 1 → root_at after w ≡ w
own_more roots wire place value after put e v lt own w low = ap (λ (t : List WireId). root_at t w) (put ∙ ap (λ p. set roots p value) e) ∙ go (cases_eq w wire)
  where
    go : (w ≡ wire) ⊎ (w ≢ wire) → root_at (set roots wire value) w ≡ w
    go (inl same) = rw same (ap (λ (x : WireId). x.number) (get_or-set_same roots wire value (numbered 0) lt) ∙ v)
    go (inr ne) = ap (λ (x : WireId). x.number) (get_or-set_other roots wire w value (numbered 0) ne) ∙ own w (omega arith)

-- the known wires have their roots, and the wires that no splitter drives have themselves
pub record RootsTo (net : PlainNetlist) (drivers : List CellId) (order : List ℕ) (count : ℕ) (roots : List WireId) : Type 0 where
  pub width : length roots ≡ number_of_wires net
  pub own : (wire : ℕ) → wire < number_of_wires net → ((from : ℕ) → HasSplitter net from wire → ⊥) → root_at roots wire ≡ wire
  pub root : (wire : ℕ) → IsKnown (dependencies_of net drivers) (take count order) wire → IsRoot net (root_at roots wire) wire

out_or_not : (a b wire : ℕ) → IsIn wire (a ∷ b ∷ []) ⊎ (IsIn wire (a ∷ b ∷ []) → ⊥)
out_or_not a b wire = elim (cases_eq a wire) [
  | inl e ↦ inl (inl e)
  | inr p ↦ elim (cases_eq b wire) [
    | inl e ↦ inl (inr (inl e))
    | inr q ↦ inr (λ o. elim o [ inl e ↦ p e | inr r ↦ elim r [ inl e ↦ q e | inr none ↦ none ] ])
  ]
]

-- no splitter leads to an output of a cell that isn't one
pub cell_apart : (net : PlainNetlist) → IsWired net → (cell : Cell) → IsIn cell net.cells → ((from to : ℕ) → Splits cell from to → ⊥) → (wire : ℕ) → IsIn wire (outs cell)
    → (from : ℕ) → HasSplitter net from wire → ⊥
cell_apart net wires cell i none wire o from s =
    let here = place_of cell net.cells i in
    let there = place_of s.0 net.cells s.1 in
    let same : s.0 ≡ cell = (driving_cell-is net wires wire there.0 here.0 s.0 cell there.1 here.1 (Splits-out s.0 from wire s.2) o).1 in
    none from wire (subst (λ c. Splits c from wire) same s.2)

module _ (net : PlainNetlist) (rules : ℕ) (le : 8 ≤ rules) (clear : IsClear net rules) (drivers : List CellId) (holds : HoldsDrivers net drivers)
    (order : PlainOrder) (h : IsOrderOf (dependencies_of net drivers) order) where
  wires : IsWired net
  wires = wired net rules (omega (arith, le)) clear

  -- where no splitter leads to a wire it is its own root
  own_root : (roots : List WireId) (wire : ℕ) → root_at roots wire ≡ wire → ((from : ℕ) → HasSplitter net from wire → ⊥) → IsRoot net (root_at roots wire) wire
  own_root roots wire e none = subst (λ r. IsRoot net r wire) (sym e) (record { splitters = 0; chain = refl; first = none })

  -- no splitter leads to the wire of an input rail
  rail_apart : (wire : ℕ) → IsIn wire (map wire_of net.input_rails) → (from : ℕ) → HasSplitter net from wire → ⊥
  rail_apart wire i from s =
      let total = occurrences-append wire (map wire_of net.input_rails) (flat_map outs net.cells) in
      let once = driven_once net wires wire in
      let one = IsIn-occurrences wire (map wire_of net.input_rails) i in
      let other = IsIn-occurrences wire (flat_map outs net.cells) (IsIn-flat_map outs wire s.0 net.cells s.1 (Splits-out s.0 from wire s.2)) in
      omega arith

  rail_below : (wire : ℕ) → IsIn wire (map wire_of net.input_rails) → wire < number_of_wires net
  rail_below wire i = let r = IsIn-from_map wire_of wire net.input_rails i in subst (λ w. w < number_of_wires net) r.2 ((named_below net).of_input r.0 r.1)

  pub roots_begun : (roots : List WireId) → AreOwn (number_of_wires net) roots → RootsTo net drivers order.items 0 roots
  roots_begun roots own = record { width = own.width; own = λ wire lt none. own.own wire lt; root = λ wire k. at_rail wire k }
    where
      at_rail : (wire : ℕ) → IsKnown (dependencies_of net drivers) [] wire → IsRoot net (root_at roots wire) wire
      at_rail wire (inl i) =
          let rail = IsIn-contained (map wire_of net.input_rails) wire i in own_root roots wire (own.own wire (rail_below wire rail)) (rail_apart wire rail)
      at_rail wire (inr y) = absurd (IsIn-contained [] y.0 y.1)

  module _ (i : ℕ) (low : i < length order.items) (cell : Cell) (at : slice_get (cells_of net drivers) (slice_index order.items i) ≡ Some cell)
      (roots : List WireId) (r : RootsTo net drivers order.items i roots) where
    among : IsIn cell net.cells
    among = cell_among net drivers holds cell (IsIn-place cell (cells_of net drivers) (slice_index order.items i) at)

    -- what this cell makes known is what it drives
    known_split : (wire : ℕ) → IsKnown (dependencies_of net drivers) (take (i + 1) order.items) wire → IsKnown (dependencies_of net drivers) (take i order.items) wire ⊎ IsIn wire (outs cell)
    known_split wire (inl s) = inl (inl s)
    known_split wire (inr y) =
        elim (IsIn-behind y.0 (slice_index order.items i) (take i order.items) (subst (λ l. IsIn y.0 l) (take_more order.items i 0 low) (IsIn-contained (take (i + 1) order.items) y.0 y.1))) [
          | inl earlier ↦ inl (inr (y.0, contained-IsIn (take i order.items) y.0 earlier, y.2))
          | inr this ↦ inr (subst (λ l. IsIn wire l) (lists_at (cells_of net drivers) (slice_index order.items i) cell at).1
              (IsIn-contained (yields_of (dependencies_of net drivers) (slice_index order.items i)) wire (subst (λ k. Contains (yields_of (dependencies_of net drivers) k) wire) (sym this) y.2)))
        ]

    unsplit : ((from to : ℕ) → Splits cell from to → ⊥) → RootsTo net drivers order.items (i + 1) roots
    unsplit none = record {
      width = r.width;
      own = r.own;
      root = λ wire k. elim (known_split wire k) [
        | inl earlier ↦ r.root wire earlier
        | inr o ↦
            let apart = cell_apart net wires cell among none wire o in own_root roots wire (r.own wire ((named_below net).of_outs cell among wire o) apart) apart
      ];
    }

  module _ (i : ℕ) (low : i < length order.items) (from left right : WireId) (at : slice_get (cells_of net drivers) (slice_index order.items i) ≡ Some (Split from left right)) (roots : List WireId)
      (r : RootsTo net drivers order.items i roots) where
    abbrev splitter : Cell
    splitter = Split from left right

    abbrev root : WireId
    root = get_or roots from.number (numbered 0)

    abbrev after : List WireId
    after = set (set roots left.number root) right.number root

    splitter_in : IsIn splitter net.cells
    splitter_in = cell_among net drivers holds splitter (IsIn-place splitter (cells_of net drivers) (slice_index order.items i) at)

    out_low : (wire : ℕ) → IsIn wire (outs splitter) → wire < length roots
    out_low wire o = omega (arith, r.width, (named_below net).of_outs splitter splitter_in wire o)

    put_at : (wire : ℕ) → IsIn wire (outs splitter) → (wire ≡ right.number) ⊎ (wire ≢ right.number) → get_or after wire (numbered 0) ≡ root
    put_at wire o (inl e) =
        rw e (get_or-set_same (set roots left.number root) right.number root (numbered 0) (omega (arith, length-set roots left.number root, out_low right.number (inr (inl refl)))))
    put_at wire (inl e) (inr ne) =
        get_or-set_other (set roots left.number root) right.number wire root (numbered 0) ne ∙ ap (λ w. get_or (set roots left.number root) w (numbered 0)) (sym e)
        ∙ get_or-set_same roots left.number root (numbered 0) (out_low left.number (inl refl))
    put_at wire (inr (inl e)) (inr ne) = absurd (ne (sym e))
    put_at wire (inr (inr o)) (inr ne) = absurd o

    put : (wire : ℕ) → IsIn wire (outs splitter) → root_at after wire ≡ root_at roots from.number
    put wire o = ap (λ (w : WireId). w.number) (put_at wire o (cases_eq wire right.number))

    kept : (wire : ℕ) → (IsIn wire (outs splitter) → ⊥) → root_at after wire ≡ root_at roots wire
    kept wire out =
        ap (λ (w : WireId). w.number) (get_or-set_other (set roots left.number root) right.number wire root (numbered 0) (λ e. out (inr (inl (sym e))))
        ∙ get_or-set_other roots left.number wire root (numbered 0) (λ e. out (inl (sym e))))

    -- the splitter's input was known before
    above : IsRoot net (root_at roots from.number) from.number
    above = r.root from.number (h.order.ready i low from.number
        (contained-IsIn (needs_of (dependencies_of net drivers) (slice_index order.items i)) from.number
        (subst (λ l. IsIn from.number l) (sym (lists_at (cells_of net drivers) (slice_index order.items i) splitter at).0) (inl refl))))

    below : (wire : ℕ) → IsIn wire (outs splitter) → IsRoot net (root_at after wire) wire
    below wire o = subst (λ w. IsRoot net w wire) (sym (put wire o)) (record {
      splitters = suc above.splitters;
      chain = SplittersBelow-one_more net above.splitters (root_at roots from.number) from.number wire above.chain (splitter, splitter_in, (refl, o));
      first = above.first;
    })

    splits : RootsTo net drivers order.items (i + 1) after
    splits = record {
      width = length-set (set roots left.number root) right.number root ∙ length-set roots left.number root ∙ r.width;
      own = λ wire lt none. kept wire (λ o. none from.number (splitter, splitter_in, (refl, o))) ∙ r.own wire lt none;
      root = λ wire k. elim (out_or_not left.number right.number wire) [
        | inl o ↦ below wire o
        | inr out ↦ elim (known_split i low splitter at roots r wire k) [
          | inl earlier ↦ subst (λ w. IsRoot net w wire) (sym (kept wire out)) (r.root wire earlier)
          | inr o ↦ absurd (out o)
        ]
      ];
    }

  pub roots_more : (i : ℕ) → i < length order.items → (cell : Cell) → slice_get (cells_of net drivers) (slice_index order.items i) ≡ Some cell
      → (roots : List WireId) → RootsTo net drivers order.items i roots
      → RootsTo net drivers order.items (i + 1) (with_roots roots cell)
  roots_more i low (La a b out) at roots r = unsplit i low (La a b out) at roots r (λ from to s. s)
  roots_more i low (Fa a b out) at roots r = unsplit i low (Fa a b out) at roots r (λ from to s. s)
  roots_more i low (Split from left right) at roots r = splits i low from left right at roots r
  roots_more i low (Droc role preload feed q n) at roots r = unsplit i low (Droc role preload feed q n) at roots r (λ from to s. s)

  -- every wire is grounded
  all_grounded : (wire : ℕ) → wire < number_of_wires net → Grounded net wire
  all_grounded wire lt = elim (IsIn-append wire (map wire_of net.input_rails) (flat_map outs net.cells) (occurrences-IsIn wire (driven net) (wires.all_driven wire lt))) [
    | inl rail ↦ let r = IsIn-from_map wire_of wire net.input_rails rail in of_rail wire r.0 r.1 r.2
    | inr out ↦ let c = IsIn-from_flat_map outs wire net.cells out in of_cell c.0 c.1 c.2
  ]
    where
      of_cell : (cell : Cell) → IsIn cell net.cells → IsIn wire (outs cell) → Grounded net wire
      of_cell cell i o = elim (droc_or_not cell) [
        | inl droc ↦ of_droc wire cell i droc o
        | inr gate ↦ elim (cases_Bool (get_or order.known wire false)) [
          | inl k ↦ known_grounded net drivers holds order h wire k
          | inr u ↦
              let at = place_of cell net.cells i in
              absurd (clear (Loop (numbered at.0)) (cell, at.1, gate, wire, o, unknown_loose net drivers holds order h wire u) (omega (arith, le)))
        ]
      ]

  pub roots_done : (n : ℕ) → length order.items ≤ n → (roots : List WireId) → RootsTo net drivers order.items n roots → AreRoots net roots
  roots_done n all roots r = record {
    width = r.width;
    root = λ wire lt. r.root wire (subst (λ l. IsKnown (dependencies_of net drivers) l wire) (sym (take_all n order.items all))
        (reached_is_known (dependencies_of net drivers) order.items h.order wire (reached_of net drivers holds wire (all_grounded wire lt))));
  }

  -- an item is a place of the list
  pub item_place : (item : ℕ) → IsIn item order.items → item < length drivers
  item_place item i = let lt = ((h.order.exact item).0 (contained-IsIn order.items item i)).0 in omega (arith, lt, length-map (cells_of net drivers) needs_of_cell, length-map drivers (cell_of net))
