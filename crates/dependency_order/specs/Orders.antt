-- The orders in which each item comes after all that it needs.
use Rattle.std.specs.Prelude.{◌≡◌, ◌<◌, ◌⊎◌, ◌↔◌, ℕ, Bool, true, false, List, length, take, get_or, slice_index, Contains, eqb}
use Rattle.std.specs.List.{IsDistinct}
use Rattle.dependency_order.specs.Dependencies.{PlainDependencies, needs_of, yields_of}

-- The least set that holds the numbers known at the start, and each number that an item yields all of whose
-- needs are in the set.
pub data Reached (d : PlainDependencies) : ℕ → Type 0 where
  at_start : (number : ℕ) → Contains d.starts number → Reached d number
  by_item : (number item : ℕ) → item < length d.needs → ((used : ℕ) → Contains (needs_of d item) used → Reached d used)
      → Contains (yields_of d item) number → Reached d number

-- all that the item needs is in the least set
abbrev pub Reaches : PlainDependencies → ℕ → Type 0
Reaches d item = (item < length d.needs) × ((used : ℕ) → Contains (needs_of d item) used → Reached d used)

-- the number is known at the start, or an item of the order yields it
abbrev pub IsKnown : PlainDependencies → List ℕ → ℕ → Type 0
IsKnown d order number =
    Contains d.starts number ⊎ ((item : ℕ) × Contains order item × Contains (yields_of d item) number)

-- all that the item needs is known
abbrev pub IsReady : PlainDependencies → List ℕ → ℕ → Type 0
IsReady d order item = (used : ℕ) → Contains (needs_of d item) used → IsKnown d order used

-- each item that the least set reaches, once, after all that it needs, and no other item
pub record IsOrder (d : PlainDependencies) (order : List ℕ) : Type 0 where
  pub once : IsDistinct eqb order
  pub ready : (place : ℕ) → place < length order → IsReady d (take place order) (slice_index order place)
  pub exact : (item : ℕ) → Contains order item ↔ Reaches d item

-- each item of the order may come before all others that are ready at its turn
abbrev pub IsChosen : (ℕ → ℕ → Type 0) → PlainDependencies → List ℕ → Type 0
IsChosen allows d order =
    (place other : ℕ) → place < length order → other < length d.needs → (Contains (take place order) other → ⊥)
    → IsReady d (take place order) other → allows (slice_index order place) other

-- an order with a bit for each number that it makes known
pub record PlainOrder : Type 0 where
  pub items : List ℕ
  pub known : List Bool

-- the order, and the bits of the numbers that are in the least set
pub record IsOrderOf (d : PlainDependencies) (found : PlainOrder) : Type 0 where
  pub order : IsOrder d found.items
  pub width : length found.known ≡ d.count
  pub known : (number : ℕ) → (get_or found.known number false ≡ true) ↔ Reached d number
