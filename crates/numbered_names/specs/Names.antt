-- Numbers of names by first appearance.
use Rattle.std.specs.Prelude.{◌≡◌, ◌≤◌, ◌-◌, ℕ, ◌+◌, ◌++◌, List, [], ◌∷◌, Option, Some, None, length, slice_get, unwrap_or, if◌then◌else◌}
use Rattle.std.specs.Option.{is_some}
use Rattle.std.specs.Str.{bytes_eq}

-- the number of a name among names that are numbered on from this one
abbrev pub number_from : ℕ → List (List ℕ) → List ℕ → Option ℕ
number_from first [] name = None
number_from first (other ∷ names) name = if bytes_eq name other then Some first else number_from (first + 1) names name

-- the number of a name, from 1
abbrev pub number_in : List (List ℕ) → List ℕ → Option ℕ
number_in names name = number_from 1 names name

-- the names with this one, which stands last where it is new
abbrev pub names_with : List (List ℕ) → List ℕ → List (List ℕ)
names_with names name = if is_some (number_in names name) then names else names ++ name ∷ []

-- the number of a name among the names with it
abbrev pub number_for : List (List ℕ) → List ℕ → ℕ
number_for names name = unwrap_or (number_in names name) (length names + 1)

-- a number is that of a name, from 1
abbrev pub HasNumber : List (List ℕ) → ℕ → List ℕ → Type 0
HasNumber names number name = (1 ≤ number) × (slice_get names (number - 1) ≡ Some name)

-- each name has the number of its place
abbrev pub AreNumbered : List (List ℕ) → Type 0
AreNumbered names = (place : ℕ) (name : List ℕ) → slice_get names place ≡ Some name → number_in names name ≡ Some (place + 1)
