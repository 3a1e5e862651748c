-- Orders of three items.
use Rattle.std.specs.Prelude.{[], ◌∷◌}
use Rattle.dependency_order.specs.Dependencies.{PlainDependencies}
use Rattle.dependency_order.specs.Orders.{Reached, IsOrder}

-- 0 is known; item 0 makes 1 of 2, item 1 makes 2 of 0, and item 2 makes 3 of itself
abbrev pub three_items : PlainDependencies
three_items = record {
  count = 4;
  starts = 0 ∷ [];
  needs = (2 ∷ []) ∷ (0 ∷ []) ∷ (3 ∷ []) ∷ [];
  yields = (1 ∷ []) ∷ (2 ∷ []) ∷ (3 ∷ []) ∷ [];
}

-- item 1 comes first and then item 0, not the other way round, and item 2 never comes
pub record Examples : Type 0 where
  pub order : IsOrder three_items (1 ∷ 0 ∷ [])
  pub other_way : IsOrder three_items (0 ∷ 1 ∷ []) → ⊥
  pub circle : Reached three_items 3 → ⊥
