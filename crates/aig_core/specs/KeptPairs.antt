-- The pairs that a graph keeps, with an index of them or without, and what placing one more does.
use Rattle.std.specs.Prelude.{◌≡◌, ℕ, List, [], ◌∷◌, ◌++◌, length, slice_get, Some}
use Rattle.aig_core.specs.declared.kept_pairs.KeptPairs.{KeptPairs}
use Rattle.aig_core.specs.declared.kept_pairs.KeptPairs.TheVariants.{Indexed, Listed}
use Rattle.aig_core.specs.declared.pairs.Pair.{Pair}

-- the pairs in order
abbrev pub pairs_of : KeptPairs → List Pair
pairs_of (Indexed set) = set.keys
pairs_of (Listed list) = list.items

-- no two places hold the same pair
abbrev pub IsOnce : List Pair → Type 0
IsOnce pairs =
    (one other : ℕ) (pair : Pair) → slice_get pairs one ≡ Some pair → slice_get pairs other ≡ Some pair → one ≡ other

-- no place holds the pair
abbrev pub IsMissing : List Pair → Pair → Type 0
IsMissing pairs pair = (place : ℕ) → slice_get pairs place ≡ Some pair → ⊥

-- the pair stands at the place, where it was found, or where it was added last since it was missing
pub data IsPlaced (old : List Pair) (pair : Pair) (place : ℕ) (new : List Pair) : Type 0 where
  found : slice_get old place ≡ Some pair → new ≡ old → IsPlaced old pair place new
  added : IsMissing old pair → place ≡ length old → new ≡ old ++ pair ∷ [] → IsPlaced old pair place new
