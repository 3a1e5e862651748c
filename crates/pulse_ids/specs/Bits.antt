-- Lists of bits that are packed in words of 64.
use Rattle.std.specs.Prelude.{◌≡◌, if◌then◌else◌, ℕ, ◌*◌, ◌/◌, ◌%◌, ◌^◌, ◌≤◌, Bool, not, ◌==◌, List, map, length, slice_index}
use Rattle.std.specs.Int.Bits.{bit_and}
use Rattle.std.specs.List.{range_with_len}

-- the bit of a word at a place
abbrev pub bit_of_word : ℕ → ℕ → Bool
bit_of_word word place = not (bit_and word (2 ^ place) == 0)

-- the bit of a number in a list of words
abbrev pub bit_in_words : List ℕ → ℕ → Bool
bit_in_words words number = bit_of_word (slice_index words (number / 64)) (number % 64)

-- the first bits of a list of words
abbrev pub bits_of : List ℕ → ℕ → List Bool
bits_of words count = map (bit_in_words words) (range_with_len 0 count)

-- there are words for all bits
abbrev pub HasWords : List ℕ → ℕ → Type 0
HasWords words count = count ≤ 64 * length words

-- the bit of one number is this one, and each other bit stays
abbrev pub HasBitPut : List ℕ → ℕ → Bool → List ℕ → Type 0
HasBitPut before number bit after =
    (other : ℕ) → bit_in_words after other ≡ (if number == other then bit else bit_in_words before other)
