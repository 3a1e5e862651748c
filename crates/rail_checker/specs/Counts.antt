-- How often each wire stands in a list, up to 255.
use Rattle.std.specs.Prelude.{◌≡◌, ◌<◌, ◌+◌, ℕ, min, List, [], ◌∷◌, length, set, slice_index}
use Rattle.pulse_ids.specs.Lists.{occurrences}

-- the counts of the numbers below a bound
pub record Counts (bound : ℕ) (numbers counts : List ℕ) : Type 0 where
  pub width : length counts ≡ bound
  pub counted : (number : ℕ) → number < bound → slice_index counts number ≡ min (occurrences number numbers) 255

-- the counts with one wire more
abbrev pub with_wire : List ℕ → ℕ → List ℕ
with_wire counts wire = set counts wire (min (slice_index counts wire + 1) 255)

-- the counts with these wires more
abbrev pub with_wires : List ℕ → List ℕ → List ℕ
with_wires counts [] = counts
with_wires counts (wire ∷ wires) = with_wires (with_wire counts wire) wires
