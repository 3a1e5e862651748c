-- What waits for its turn before and after an item is put in or taken, and which item may come first.
use Rattle.std.specs.Prelude.{◌≡◌, ◌≤◌, ◌<◌, ◌⊎◌, ℕ, Option, Some, None, List, [], ◌∷◌, length, slice_index, IsPermutation}

-- one item is taken, or none was there
abbrev pub IsTaken : List ℕ → Option ℕ → List ℕ → Type 0
IsTaken before None after = (before ≡ []) × (after ≡ [])
IsTaken before (Some item) after = IsPermutation before (item ∷ after)

-- the first item is taken, or none was there
abbrev pub IsFirst : List ℕ → Option ℕ → List ℕ → Type 0
IsFirst before None after = (before ≡ []) × (after ≡ [])
IsFirst before (Some item) after = before ≡ item ∷ after

-- any item may come before any other
abbrev pub AllowsAny : List ℕ → ℕ → ℕ → Type 0
AllowsAny keys item other = Unit

-- an item may come before another of a higher key, and of equal keys the lower item comes first
abbrev pub AllowsLowest : List ℕ → ℕ → ℕ → Type 0
AllowsLowest keys item other =
    (slice_index keys item < slice_index keys other) ⊎ ((slice_index keys item ≡ slice_index keys other) × (item ≤ other))

-- any item may wait
abbrev pub AlwaysFits : List ℕ → ℕ → Type 0
AlwaysFits keys item = Unit

-- there is a key for the item
abbrev pub HasKey : List ℕ → ℕ → Type 0
HasKey keys item = item < length keys

-- the keys of the items, and the items that wait
pub record PlainLowest : Type 0 where
  pub keys : List ℕ
  pub waiting : List ℕ
