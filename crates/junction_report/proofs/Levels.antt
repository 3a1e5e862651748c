-- Tables of depths that are filled along an order of the cells.
use Rattle.std.proofs.Common.{◌≡◌, ◌≢◌, ◌+◌, ◌<◌, ◌≤◌, ◌||◌, ℕ, inl, inr, Bool, true, false, Some, List, [], ◌∷◌, length, map, take, set, replicate, get_or, slice_get, eqb, refl, sym, ap, subst, ◌∙◌, arith}
use Rattle.std.specs.Prelude.{slice_index}
use Rattle.std.specs.List.{list_any}
use Rattle.std.proofs.lemmas.Bool.{cases_eq, cases_lt, eqb-true}
use Rattle.std.proofs.lemmas.List.{get_or-set_same, get_or-set_other, get_or-replicate, get_or_past, length-set, length-replicate, take_all}
use Rattle.std.proofs.lemmas.Map.Steps.{length-le_from_distinct_below}
use Rattle.pulse_ids.specs.Lists.{IsIn}
use Rattle.pulse_ids.proofs.CallerLemmas.{IsIn-at, IsIn-take, IsIn-taken, IsIn-contained, contained-IsIn}
use Rattle.cell_netlist.specs.declared.lines.Cell.{Cell}
use Rattle.cell_netlist.specs.declared.lines.Cell.TheVariants.{La, Fa, Split, Droc}
use Rattle.cell_netlist.specs.Netlists.{PlainNetlist, reads, IsDroc}
use Rattle.cell_netlist.specs.Sound.{IsSound}
use Rattle.cell_netlist.specs.Wired.{IsWired}
use Rattle.dependency_order.specs.Dependencies.{needs_of, yields_of}
use Rattle.dependency_order.specs.Orders.{PlainOrder, IsKnown, IsOrderOf}
use Rattle.junction_report.specs.declared.depths.Measured.{Measured}
use Rattle.junction_report.specs.declared.depths.Measured.TheVariants.{Cells, Gates}
use Rattle.junction_report.specs.Walks.{IsPassing}
use Rattle.cell_orders.specs.Needs.{feeding, needs_of_cell, dependencies_of}
use Rattle.junction_report.specs.Depths.{share_of, IsGreatestTo, most, depth_behind, entry_depth, AreDepths}
use Rattle.cell_orders.proofs.CallerLemmas.{same_cell, passing_below, feeding_drives, drives_feeding, one_drives, read_needed, all_in_order, item_at_below, items_few, need_come}
use Rattle.junction_report.proofs.Greatest.{IsGreatestInto, entry_is, greatest_next}

-- the table is right for the cells that have come in an order, and no depth is above their number
pub record LevelsTo (net : PlainNetlist) (measured : Measured) (order : List ℕ) (i : ℕ) (table : List ℕ) : Type 0 where
  pub width : length table ≡ length net.cells
  pub passing : (c : ℕ) → IsIn c (take i order) → IsPassing net c → IsGreatestTo net measured c (get_or table c 0)
  pub droc : (c : ℕ) (cell : Cell) → slice_get net.cells c ≡ Some cell → IsDroc cell → get_or table c 0 ≡ 0
  pub small : (c : ℕ) → get_or table c 0 ≤ i

-- the greatest of equal numbers
pub most_same : (f : ℕ → ℕ) (b x : ℕ) (xs : List ℕ) → ((y : ℕ) → IsIn y (x ∷ xs) → y ≡ b) → most (map f (x ∷ xs)) ≡ f b
most_same f b x [] all = let s = ap f (all x (inl refl)) in omega arith
most_same f b x (y ∷ xs) all =
    let s = ap f (all x (inl refl)) in let r = most_same f b y xs (λ z i. all z (inr i)) in omega arith

-- the greatest of small numbers
pub most_small : (f : ℕ → ℕ) (n : ℕ) (xs : List ℕ) → ((y : ℕ) → f y ≤ n) → most (map f xs) ≤ n
most_small f n [] all = omega arith
most_small f n (x ∷ xs) all = let s = all x in let r = most_small f n xs all in omega arith

-- a value of small values
pub entry_small : (value : ℕ → ℕ) (n : ℕ) (cell : Cell) → ((wire : ℕ) → value wire ≤ n) → entry_depth value cell ≤ n
entry_small value n (La a b out) all = let p = all a.number in let q = all b.number in omega arith
entry_small value n (Fa a b out) all = let p = all a.number in let q = all b.number in omega arith
entry_small value n (Split from left right) all = all from.number
entry_small value n (Droc role preload feed q k) all = omega arith

share_small : (measured : Measured) (cell : Cell) → share_of measured cell ≤ 1
share_small Cells (La a b out) = omega arith
share_small Cells (Fa a b out) = omega arith
share_small Cells (Split from left right) = omega arith
share_small Cells (Droc role preload feed q n) = omega arith
share_small Gates (La a b out) = omega arith
share_small Gates (Fa a b out) = omega arith
share_small Gates (Split from left right) = omega arith
share_small Gates (Droc role preload feed q n) = omega arith

droc_value : (measured : Measured) (value : ℕ → ℕ) (cell : Cell) → IsDroc cell → share_of measured cell + entry_depth value cell ≡ 0
droc_value measured value (La a b out) k = absurd k
droc_value measured value (Fa a b out) k = absurd k
droc_value measured value (Split from left right) k = absurd k
droc_value Cells value (Droc role preload feed q n) k = refl
droc_value Gates value (Droc role preload feed q n) k = refl

pub behind_small : (net : PlainNetlist) (table : List ℕ) (n : ℕ) → ((c : ℕ) → get_or table c 0 ≤ n) → (wire : ℕ) → depth_behind net table wire ≤ n
behind_small net table n small wire = most_small (λ c. get_or table c 0) n (feeding net wire) small

-- the greatest measure of the walks into a wire stands in a table that is right for the cells that drive it
pub into_by : (net : PlainNetlist) → IsWired net → (measured : Measured) (table : List ℕ) (wire : ℕ)
    → ((b : ℕ) → IsIn b (feeding net wire) → IsPassing net b → IsGreatestTo net measured b (get_or table b 0))
    → IsGreatestInto net measured wire (depth_behind net table wire)
into_by net wired measured table wire right = go (feeding net wire) refl
  where
    go : (cells : List ℕ) → feeding net wire ≡ cells → IsGreatestInto net measured wire (depth_behind net table wire)
    go [] e = inr (λ b d. absurd (subst (λ l. IsIn b l) e (drives_feeding net b wire d)), ap (λ l. most (map (λ x. get_or table x 0) l)) e)
    go (b ∷ rest) e =
        let fed : IsIn b (feeding net wire) = subst (λ l. IsIn b l) (sym e) (inl refl) in
        let drives = feeding_drives net b wire fed in
        let same = most_same (λ x. get_or table x 0) b b rest (λ y k.
        one_drives net wired wire y b (feeding_drives net y wire (subst (λ l. IsIn y l) (sym e) k)) drives) in
        let its : depth_behind net table wire ≡ get_or table b 0 = ap (λ l. most (map (λ x. get_or table x 0) l)) e ∙ same in
        inl (b, drives, subst (λ n. IsGreatestTo net measured b n) (sym its) (right b fed drives.passing))

module _ (net : PlainNetlist) (measured : Measured) (order : PlainOrder) (h : IsOrderOf (dependencies_of net) order) where
  pub levels_begun : (table : List ℕ) → table ≡ replicate (length net.cells) 0 → LevelsTo net measured order.items 0 table
  levels_begun table e = record {
    width = ap length e ∙ length-replicate {A = ℕ} (length net.cells) 0;
    passing = λ c i p. absurd i;
    droc = λ c cell at k. zero_at c;
    small = λ c. let z = zero_at c in omega arith;
  }
    where
      zero_at : (c : ℕ) → get_or table c 0 ≡ 0
      zero_at c = ap (λ (l : List ℕ). get_or l c 0) e ∙ elim (cases_lt c (length net.cells)) [
        | inl lt ↦ get_or-replicate {A = ℕ} (length net.cells) c 0 0 lt
        | inr ge ↦ get_or_past (replicate (length net.cells) 0) c 0 (omega (arith, length-replicate {A = ℕ} (length net.cells) 0))
      ]

  module _ (sound : IsSound net) where
    module _ (i : ℕ) (low : i < length order.items) (cell : Cell) (at : slice_get net.cells (slice_index order.items i) ≡ Some cell)
        (table : List ℕ) (r : LevelsTo net measured order.items i table) where
      abbrev c : ℕ
      c = slice_index order.items i

      abbrev value : ℕ
      value = share_of measured cell + entry_depth (depth_behind net table) cell

      into : (IsDroc cell → ⊥) → (wire : ℕ) → IsIn wire (reads cell) → IsGreatestInto net measured wire (depth_behind net table wire)
      into kind wire j = into_by net sound.wired measured table wire (λ b fed p. r.passing b (need_come net order.items h.order i low cell at b (read_needed net cell wire b kind j fed)) p)

      value_is : IsPassing net c → IsGreatestTo net measured c value
      value_is p = along p.cell p.at p.kind (same_cell net c p.at at)
        where
          along : (its : Cell) → slice_get net.cells c ≡ Some its → (IsDroc its → ⊥) → its ≡ cell → IsGreatestTo net measured c value
          along its place kind same =
              let kind_here : IsDroc cell → ⊥ = subst (λ x. IsDroc x → ⊥) same kind in
              greatest_next net sound.wired measured c (record { cell = cell; at = at; kind = kind_here }) (entry_depth (depth_behind net table) cell)
              (entry_is net measured (depth_behind net table) cell kind_here (into kind_here))

      c_low : c < length table
      c_low = omega (arith, r.width, item_at_below net order.items h.order i low)

      after : List ℕ
      after = set table c value

      here : (d : ℕ) → d ≡ c → get_or (set table c value) d 0 ≡ value
      here d e = ap (λ k. get_or (set table c value) k 0) e ∙ get_or-set_same table c value 0 c_low

      there : (d : ℕ) → d ≢ c → get_or (set table c value) d 0 ≡ get_or table d 0
      there d ne = get_or-set_other table c d value 0 ne

      value_small : value ≤ i + 1
      value_small =
          omega (arith, share_small measured cell, entry_small (depth_behind net table) i cell (behind_small net table i r.small))

      pub levels_more : LevelsTo net measured order.items (i + 1) (set table c value)
      levels_more = record {
        width = length-set table c value ∙ r.width;
        passing = λ d k p. elim (cases_eq d c) [
          | inl e ↦ subst (λ n. IsGreatestTo net measured d n) (sym (here d e))
              (subst (λ x. IsGreatestTo net measured x value) (sym e) (value_is (subst (IsPassing net) e p)))
          | inr ne ↦ elim (IsIn-taken d order.items i 0 low k) [
            | inl earlier ↦ subst (λ n. IsGreatestTo net measured d n) (sym (there d ne)) (r.passing d earlier p)
            | inr this ↦ absurd (ne (sym this))
          ]
        ];
        droc = λ d its place k. elim (cases_eq d c) [
          | inl e ↦ here d e ∙ droc_value measured (depth_behind net table) cell
              (subst IsDroc (same_cell net c (subst (λ x. slice_get net.cells x ≡ Some its) e place) at) k)
          | inr ne ↦ there d ne ∙ r.droc d its place k
        ];
        small = λ d. elim (cases_eq d c) [
          | inl e ↦ omega (arith, here d e, value_small)
          | inr ne ↦ omega (arith, there d ne, r.small d)
        ];
      }

    pub levels_done : (n : ℕ) → n ≡ length order.items → (table : List ℕ) → LevelsTo net measured order.items n table → AreDepths net measured table
    levels_done n e table r = record {
      width = r.width;
      passing = λ c p. r.passing c (subst (λ l. IsIn c l) (sym (take_all n order.items (omega arith)))
          (all_in_order net sound order.items h.order c (passing_below net c p))) p;
      droc = r.droc;
      small = λ c. omega (arith, r.small c, items_few net order.items h.order);
    }
