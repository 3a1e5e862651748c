-- The deltas of the binary spelling: groups of seven bits, the least first. (AIGER 1.9, section 3.)
use Rattle.std.specs.Prelude.{ℕ, ◌+◌, ◌*◌, ◌%◌, ◌^◌, ◌==◌, ◌&&◌, ◌||◌, List, [], ◌∷◌, Option, Some, None, length, unwrap_or, nat_le, nat_lt, if◌then◌else◌}
use Rattle.aiger_reader.specs.declared.refusals.UnitRefusal.{UnitRefusal}
use Rattle.aiger_reader.specs.declared.refusals.UnitRefusal.TheVariants.{BadDelta}

abbrev pub groups_value : List ℕ → ℕ
groups_value [] = 0
groups_value (byte ∷ bytes) = byte % 128 + 128 * groups_value bytes

-- the number of a delta, which has at most five bytes and is below 2^32
abbrev pub delta_of : List ℕ → Option ℕ
delta_of unit = if nat_le (length unit) 5 && nat_lt (groups_value unit) (2 ^ 32) then Some (groups_value unit) else None

abbrev pub delta_value : List ℕ → ℕ
delta_value unit = unwrap_or (delta_of unit) 0

-- the first delta of a conjunction leads from its left side to a lower literal
abbrev pub first_delta_refusal : ℕ → Option ℕ → Option UnitRefusal
first_delta_refusal left None = Some BadDelta
first_delta_refusal left (Some delta) = if delta == 0 || nat_lt left delta then Some BadDelta else None

-- the second one leads from the first literal to one that isn't higher
abbrev pub second_delta_refusal : ℕ → Option ℕ → Option UnitRefusal
second_delta_refusal literal None = Some BadDelta
second_delta_refusal literal (Some delta) = if nat_lt literal delta then Some BadDelta else None
