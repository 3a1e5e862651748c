-- Cells with an output that isn't grounded.
use Rattle.std.proofs.Common.{◌≡◌, ℕ, inl, inr, List, get_or, Option, Some, slice_get, Bool, true, false, not, ◌&&◌, refl, ap, subst, ◌∙◌}
use Rattle.std.proofs.lemmas.Bool.{cases_Bool}
use Rattle.pulse_ids.specs.Ids.{CellId, numbered}
use Rattle.pulse_ids.specs.Lists.{IsIn}
use Rattle.cell_netlist.specs.declared.lines.Cell.{Cell}
use Rattle.cell_netlist.specs.declared.lines.Cell.TheVariants.{La, Fa, Split, Droc}
use Rattle.cell_netlist.specs.declared.unsound.Unsound.TheVariants.{Loop}
use Rattle.cell_netlist.specs.Netlists.{PlainNetlist, outs, IsDroc, Grounded}
use Rattle.cell_netlist.specs.Sound.{Breaks}
use Rattle.dependency_order.specs.Orders.{PlainOrder, IsOrderOf}
use Rattle.rail_checker.specs.DrivingCells.{HoldsDrivers}
use Rattle.rail_checker.specs.Needs.{dependencies_of, is_loose_in}
use Rattle.rail_checker.specs.Verdicts.{IsFirst, PassesAt}
use Rattle.rail_checker.proofs.CellNeeds.{grounded_of, reached_of}
use Rattle.rail_checker.proofs.Refusing.{first_same}

not_true : (b : Bool) → not b ≡ true → b ≡ false
not_true true e = absurd cc
not_true false e = refl

one_of_two : (p q : Bool) → p ≡ true → not (p && q) ≡ true → q ≡ false
one_of_two true true k e = absurd cc
one_of_two true false k e = refl
one_of_two false q k e = absurd cc

left_of_two : (p q : Bool) → p ≡ false → not (p && q) ≡ true
left_of_two true q e = absurd cc
left_of_two false q e = refl

right_of_two : (p q : Bool) → q ≡ false → not (p && q) ≡ true
right_of_two true true e = absurd cc
right_of_two true false e = refl
right_of_two false q e = refl

module _ (net : PlainNetlist) (drivers : List CellId) (holds : HoldsDrivers net drivers) (order : PlainOrder) (h : IsOrderOf (dependencies_of net drivers) order) where
  -- a known wire is grounded
  pub known_grounded : (wire : ℕ) → get_or order.known wire false ≡ true → Grounded net wire
  known_grounded wire k = grounded_of net drivers holds wire ((h.known wire).0 k)

  -- a wire that isn't known isn't grounded
  pub unknown_loose : (wire : ℕ) → get_or order.known wire false ≡ false → Grounded net wire → ⊥
  unknown_loose wire u g = let k : get_or order.known wire false ≡ true = (h.known wire).1 (reached_of net drivers holds wire g) in cc

  unknown : (wire : ℕ) → (Grounded net wire → ⊥) → get_or order.known wire false ≡ false
  unknown wire out = elim (cases_Bool (get_or order.known wire false)) [ inl k ↦ absurd (out (known_grounded wire k)) | inr u ↦ u ]

  loose_at : (id : ℕ) (cell : Cell) → slice_get net.cells id ≡ Some cell → (IsDroc cell → ⊥) → (wire : ℕ) → IsIn wire (outs cell) → get_or order.known wire false ≡ false
      → Breaks net (Loop (numbered id))
  loose_at id cell at other wire i u = (cell, at, other, wire, i, unknown_loose wire u)

  loose_cell : (id : ℕ) (cell : Cell) → slice_get net.cells id ≡ Some cell → is_loose_in order.known cell ≡ true → Breaks net (Loop (numbered id))
  loose_cell id (La a b out) at e = loose_at id (La a b out) at (λ h. h) out.number (inl refl) (not_true _ e)
  loose_cell id (Fa a b out) at e = loose_at id (Fa a b out) at (λ h. h) out.number (inl refl) (not_true _ e)
  loose_cell id (Split from left right) at e = elim (cases_Bool (get_or order.known left.number false)) [
    | inr u ↦ loose_at id (Split from left right) at (λ h. h) left.number (inl refl) u
    | inl k ↦
        loose_at id (Split from left right) at (λ h. h) right.number (inr (inl refl)) (one_of_two (get_or order.known left.number false) (get_or order.known right.number false) k e)
  ]
  loose_cell id (Droc role preload feed q n) at e = absurd cc

  one_loose : (cell : Cell) → (IsDroc cell → ⊥) → (wire : ℕ) → IsIn wire (outs cell) → get_or order.known wire false ≡ false → is_loose_in order.known cell ≡ true
  one_loose (La a b out) other wire (inl e) u = ap not (ap (λ w. get_or order.known w false) e ∙ u)
  one_loose (La a b out) other wire (inr i) u = absurd i
  one_loose (Fa a b out) other wire (inl e) u = ap not (ap (λ w. get_or order.known w false) e ∙ u)
  one_loose (Fa a b out) other wire (inr i) u = absurd i
  one_loose (Split from left right) other wire (inl e) u =
      left_of_two (get_or order.known left.number false) (get_or order.known right.number false) (ap (λ w. get_or order.known w false) e ∙ u)
  one_loose (Split from left right) other wire (inr (inl e)) u =
      right_of_two (get_or order.known left.number false) (get_or order.known right.number false) (ap (λ w. get_or order.known w false) e ∙ u)
  one_loose (Split from left right) other wire (inr (inr i)) u = absurd i
  one_loose (Droc role preload feed q n) other wire i u = absurd (other tt)

  -- the cells that the test finds are those that break the rule
  loose_breaks : (id : ℕ) → PassesAt (is_loose_in order.known) net.cells id → Breaks net (Loop (numbered id))
  loose_breaks id b = loose_cell id b.0 b.1 b.2

  breaks_loose : (id : ℕ) → Breaks net (Loop (numbered id)) → PassesAt (is_loose_in order.known) net.cells id
  breaks_loose id b = (b.0, b.1, one_loose b.0 b.2 b.3 b.4 (unknown b.3 b.5))

  -- the lowest cell that the test finds is the lowest that breaks the rule
  pub first_loop : (cells : List Cell) → cells ≡ net.cells → (found : Option ℕ) → IsFirst (PassesAt (is_loose_in order.known) cells) found
      → IsFirst (λ n. Breaks net (Loop (numbered n))) found
  first_loop cells e found first =
      first_same (PassesAt (is_loose_in order.known) net.cells) (λ n. Breaks net (Loop (numbered n))) loose_breaks breaks_loose found
      (subst (λ l. IsFirst (PassesAt (is_loose_in order.known) l) found) e first)
