-- Lists of lists in one flat table.
use Rattle.std.specs.Prelude.{◌≤◌, ◌-◌, ℕ, List, [], ◌∷◌, length, take, drop, ⊤}

-- the lists that have ended, and the one that has begun
pub record PlainLists (X : Type 0) : Type 0 where
  pub lists : List (List X)
  pub begun : List X

-- the lists of items whose first one has a number, by the numbers at which they end
abbrev pub ended_from : {X : Type 0} → ℕ → List ℕ → List X → List (List X)
ended_from start [] items = []
ended_from start (end ∷ ends) items = take (end - start) items ∷ ended_from end ends (drop (end - start) items)

-- the items after the last list
abbrev pub begun_from : {X : Type 0} → ℕ → List ℕ → List X → List X
begun_from start [] items = items
begun_from start (end ∷ ends) items = begun_from end ends (drop (end - start) items)

-- the ends rise and are within the items
abbrev pub AreEnds : {X : Type 0} → ℕ → List ℕ → List X → Type 0
AreEnds start [] items = ⊤
AreEnds start (end ∷ ends) items = (start ≤ end) × (end - start ≤ length items) × AreEnds end ends (drop (end - start) items)

abbrev pub lists_of : {X : Type 0} → List ℕ → List X → PlainLists X
lists_of ends items = record { lists = ended_from 0 ends items; begun = begun_from 0 ends items }
