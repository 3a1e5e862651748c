-- What a counter counts.
use Rattle.std.specs.Prelude.{◌≡◌, ℕ, ◌+◌, ◌*◌, ◌%◌, ◌^◌, ◌<◌, List, [], ◌∷◌, Bool, length, take, slice_index_or, if◌then◌else◌}
use Rattle.pulse_ids.specs.Lists.{bit_at}
use Rattle.source_machine.specs.Runs.{IsRun, output_bits}
use Rattle.workload_circuits.specs.Counters.{counter}

-- the number of these binary digits, the lowest first
abbrev pub binary : List Bool → ℕ
binary [] = 0
binary (digit ∷ digits) = (if digit then 1 else 0) + 2 * binary digits

-- how many of these vectors have a 1 at the input
abbrev pub ones_in : List (List Bool) → ℕ
ones_in [] = 0
ones_in (vector ∷ vectors) = (if bit_at vector 0 then 1 else 0) + ones_in vectors

-- in each cycle of each run the outputs are the number of earlier cycles in which the input was 1, modulo 2 to the number of bits
abbrev pub CountersCount : Type 0
CountersCount =
    (bits : ℕ) (vectors valuations : List (List Bool)) → IsRun (counter bits) vectors valuations → (cycle : ℕ) → cycle < length vectors
    → binary (output_bits (counter bits) (slice_index_or valuations cycle [])) ≡ ones_in (take cycle vectors) % 2 ^ bits
