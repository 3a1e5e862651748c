-- Groups of seven bits, at most five of them.
use Rattle.std.proofs.Common.{◌≡◌, ℕ, ◌+◌, ◌*◌, ◌%◌, ◌≤◌, List, [], ◌∷◌, length, slice_index, refl, arith}
use Rattle.aiger_reader.specs.Deltas.{groups_value}

abbrev pub written : List ℕ → ℕ
written unit =
    slice_index unit 0 % 128
    + 128 * (slice_index unit 1 % 128
    + 128 * (slice_index unit 2 % 128 + 128 * (slice_index unit 3 % 128 + 128 * (slice_index unit 4 % 128))))

pub five : (unit : List ℕ) → length unit ≤ 5 → written unit ≡ groups_value unit
five [] le = refl
five (a ∷ []) le = omega arith
five (a ∷ b ∷ []) le = omega arith
five (a ∷ b ∷ c ∷ []) le = omega arith
five (a ∷ b ∷ c ∷ d ∷ []) le = omega arith
five (a ∷ b ∷ c ∷ d ∷ e ∷ []) le = omega arith
five (a ∷ b ∷ c ∷ d ∷ e ∷ f ∷ more) le = absurd (omega arith)
