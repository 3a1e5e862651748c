-- An order of the needs of a sound netlist is an order of its cells.
use Rattle.std.proofs.Common.{◌≡◌, ◌<◌, ◌≤◌, ◌||◌, ℕ, inl, inr, Bool, true, false, Some, List, [], ◌∷◌, length, take, slice_get, eqb, refl, sym, subst, arith}
use Rattle.std.specs.Prelude.{slice_index}
use Rattle.std.specs.List.{list_any}
use Rattle.std.proofs.lemmas.Bool.{eqb-true}
use Rattle.std.proofs.lemmas.Map.Steps.{length-le_from_distinct_below}
use Rattle.pulse_ids.specs.Lists.{IsIn}
use Rattle.pulse_ids.proofs.CallerLemmas.{IsIn-at, IsIn-take, IsIn-contained, contained-IsIn}
use Rattle.cell_netlist.specs.declared.lines.Cell.{Cell}
use Rattle.cell_netlist.specs.Netlists.{PlainNetlist}
use Rattle.cell_netlist.specs.Sound.{IsSound}
use Rattle.dependency_order.specs.Dependencies.{needs_of, yields_of}
use Rattle.dependency_order.specs.Orders.{IsKnown, IsOrder}
use Rattle.cell_orders.specs.CellOrders.{IsCellOrder}
use Rattle.cell_orders.specs.Needs.{needs_of_cell, dependencies_of}
use Rattle.cell_orders.proofs.Feeding.{drives_feeding}
use Rattle.cell_orders.proofs.Reaching.{need_count, needs_at, yields_at, read_needed, all_in_order}

any_in : (q : ℕ) (xs : List ℕ) → list_any (eqb q) xs ≡ true → IsIn q xs
any_in q [] e = absurd cc
any_in q (x ∷ xs) e = go (eqb q x) refl e (any_in q xs)
  where
    go : (b : Bool) → eqb q x ≡ b → (b || list_any (eqb q) xs) ≡ true → (list_any (eqb q) xs ≡ true → IsIn q xs) → IsIn q (x ∷ xs)
    go true t e rest = inl (sym (eqb-true q x t))
    go false t e rest = inr (rest e)

module _ (net : PlainNetlist) (order : List ℕ) (h : IsOrder (dependencies_of net) order) where
  -- the items are cells, and no more than there are
  pub item_below : (c : ℕ) → IsIn c order → c < length net.cells
  item_below c i = let lt = ((h.exact c).0 (contained-IsIn order c i)).0 in omega (arith, lt, need_count net)

  pub item_at_below : (i : ℕ) → i < length order → slice_index order i < length net.cells
  item_at_below i low = item_below (slice_index order i) (IsIn-at order i 0 low)

  pub items_few : length order ≤ length net.cells
  items_few = length-le_from_distinct_below order (length net.cells) h.once (λ q e. item_below q (any_in q order e))

  -- what a cell needs has come before it
  pub need_come : (i : ℕ) → i < length order → (cell : Cell) → slice_get net.cells (slice_index order i) ≡ Some cell → (b : ℕ) → IsIn b (needs_of_cell net cell)
      → IsIn b (take i order)
  need_come i low cell at b j =
      let c = slice_index order i in
      go (h.ready i low b (contained-IsIn (needs_of (dependencies_of net) c) b (subst (λ l. IsIn b l) (sym (needs_at net c cell at)) j)))
    where
      go : IsKnown (dependencies_of net) (take i order) b → IsIn b (take i order)
      go (inl s) = absurd (IsIn-contained [] b s)
      go (inr y) =
          let earlier = IsIn-contained (take i order) y.0 y.1 in
          let lt = item_below y.0 (IsIn-take y.0 i order earlier) in
          let itself = subst (λ l. IsIn b l) (yields_at net y.0 lt) (IsIn-contained (yields_of (dependencies_of net) y.0) b y.2) in
          only itself earlier
        where
          only : {a : ℕ} → IsIn b (a ∷ []) → IsIn a (take i order) → IsIn b (take i order)
          only (inl e) k = subst (λ x. IsIn x (take i order)) e k
          only (inr none) k = absurd none

  pub cell_order_is : IsSound net → IsCellOrder net order
  cell_order_is sound = record {
    cells = λ c. (item_below c, all_in_order net sound order h c);
    once = h.once;
    after = λ place low c feeds. need_come place low feeds.reader.cell feeds.reader.at c
        (read_needed net feeds.reader.cell feeds.wire c feeds.reader.kind feeds.read (drives_feeding net c feeds.wire feeds.drives));
  }
