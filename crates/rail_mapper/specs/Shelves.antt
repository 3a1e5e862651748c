-- The leaves of all rails, in one table.
use Rattle.std.specs.Prelude.{◌≡◌, ◌≤◌, ◌+◌, ◌-◌, ℕ, List, [], ◌∷◌, map, take, drop, slice_index_or, slice_set}
use Rattle.pulse_ids.specs.Ids.{WireId}
use Rattle.pulse_ids.specs.Lists.{IsIn}
use Rattle.rail_mapper.specs.declared.shelves.Shelf.{Shelf}

-- the numbers of wires
abbrev pub numbers_of : List WireId → List ℕ
numbers_of wires = map (λ (wire : WireId). wire.number) wires

-- a shelf with no leaf
abbrev pub bare_shelf : Shelf
bare_shelf = record { first = 0; end = 0 }

-- a shelf without its first leaf
abbrev pub shelf_after : Shelf → Shelf
shelf_after shelf = record { first = shelf.first + 1; end = shelf.end }

-- the leaves that stand on a shelf of the table
abbrev pub leaves_on : List ℕ → Shelf → List ℕ
leaves_on wires shelf = take (shelf.end - shelf.first) (drop shelf.first wires)

-- each shelf ends within the table
abbrev pub AreInTable : ℕ → List Shelf → Type 0
AreInTable size shelves = (shelf : Shelf) → IsIn shelf shelves → shelf.end ≤ size

-- the first leaf of a rail is taken
pub record TakesFirst (rail wire : ℕ) (before after : List (List ℕ)) : Type 0 where
  pub rest : List ℕ
  pub first : slice_index_or before rail [] ≡ wire ∷ rest
  pub taken : after ≡ slice_set before rail rest
