-- The lowest net of those that have a fault.
use Rattle.std.specs.Prelude.{◌≡◌, ℕ, ◌≤◌, ◌<◌, min, List, Bool, length, slice_index, slice_index_or, get_or, false}
use Rattle.std.specs.declared.option.Option.{Option}
use Rattle.std.specs.declared.option.Option.TheVariants.{None, Some}
use Rattle.pulse_ids.specs.Lists.{IsIn, occurrences}
use Rattle.source_machine.specs.Grounding.{IsLowest, IsNever}

-- the bits of these nets have the value, and all others are as before
pub record MarksAll (before : List Bool) (nets : List ℕ) (value : Bool) (bits : List Bool) : Type 0 where
  pub width : length bits ≡ length before
  pub marked : (net : ℕ) → IsIn net nets → slice_index_or bits net false ≡ value
  pub kept : (net : ℕ) → (IsIn net nets → ⊥) → slice_index_or bits net false ≡ slice_index_or before net false

-- how often each net below the number stands in the list, up to 255
pub record Counts (count : ℕ) (nets : List ℕ) (counts : List ℕ) : Type 0 where
  pub width : length counts ≡ count
  pub counted : (net : ℕ) → net < count → slice_index counts net ≡ min (occurrences net nets) 255

-- the lowest net that is so, or none where no net is so
abbrev pub IsFirst : (ℕ → Type 0) → Option ℕ → Type 0
IsFirst P None = IsNever P
IsFirst P (Some net) = IsLowest P net

-- the lowest net that stands in the list more than once
abbrev pub IsFirstTwice : List ℕ → Option ℕ → Type 0
IsFirstTwice nets found = IsFirst (λ net. 2 ≤ occurrences net nets) found

-- the lowest net that stands in the first list and not in the second
abbrev pub IsFirstMissing : List ℕ → List ℕ → Option ℕ → Type 0
IsFirstMissing nets removed found = IsFirst (λ net. IsIn net nets × (IsIn net removed → ⊥)) found

-- the lower of a net and of one that was found before
abbrev pub lower_of : Option ℕ → ℕ → ℕ
lower_of None net = net
lower_of (Some found) net = min found net

-- the net is one of these, and its bit is 0
abbrev pub IsUnknownIn : List ℕ → List Bool → ℕ → Type 0
IsUnknownIn nets known net = IsIn net nets × (get_or known net false ≡ false)
