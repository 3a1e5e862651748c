-- Where the numbers of names stand: each in the window of its name, or behind a full window in the overflow.
use Rattle.std.specs.Prelude.{◌≡◌, ◌≢◌, ◌≤◌, ◌<◌, ◌⊎◌, ◌+◌, ◌-◌, ◌*◌, ◌%◌, ◌^◌, ℕ, List, Option, Some, length, min, bit_and, bit_xor, fold, get_or}
use Rattle.std.specs.Global.{Vec}
use Rattle.std.specs.BTreeMap.{BTreeMap, get_by}
use Rattle.std.specs.Ordering.{nat_cmp}
use Rattle.std.specs.Cmp.Lexicographic.{slice_cmp}
use Rattle.numbered_names.specs.Names.{HasNumber}

-- a hash of one byte more
unfoldable pub hash_with : ℕ → ℕ → ℕ
hash_with hash byte = (bit_xor hash byte * 16777619) % 2 ^ 32

-- a hash of bytes
unfoldable pub hash_of : List ℕ → ℕ
hash_of bytes = fold hash_with 2166136261 bytes

-- the slot at which the window of a name begins, among so many of them
unfoldable pub start_of : ℕ → List ℕ → ℕ
start_of count name = bit_and (hash_of name) (count - 1)

-- where the window that begins at a slot ends
abbrev pub end_of : ℕ → ℕ → ℕ
end_of count start = min (start + 8) count

-- the slots from one on are taken, up to another
abbrev pub AreTaken : List ℕ → ℕ → ℕ → Type 0
AreTaken slots start end = (at : ℕ) → start ≤ at → at < end → 0 < get_or slots at 0

-- a number stands in the window that begins at a slot, and no slot of it before that one is free
pub record IsInWindow (slots : List ℕ) (start number : ℕ) : Type 0 where
  pub at : ℕ
  pub least : start ≤ at
  pub most : at < end_of (length slots) start
  pub is : get_or slots at 0 ≡ number
  pub taken : AreTaken slots start at

-- the number that an overflow gives a name
abbrev pub overflow_at : BTreeMap (Vec ℕ) ℕ → List ℕ → Option ℕ
overflow_at overflow name = get_by (λ key. slice_cmp nat_cmp name key.items) overflow

-- the window is full, and the overflow gives the name this number
pub record IsInOverflow (slots : List ℕ) (overflow : BTreeMap (Vec ℕ) ℕ) (start number : ℕ) (name : List ℕ) : Type 0 where
  pub full : AreTaken slots start (end_of (length slots) start)
  pub gives : overflow_at overflow name ≡ Some number

-- a name's number is where it is looked for
abbrev pub IsKept : List ℕ → BTreeMap (Vec ℕ) ℕ → ℕ → List ℕ → Type 0
IsKept slots overflow number name =
    let start = start_of (length slots) name in
    IsInWindow slots start number ⊎ IsInOverflow slots overflow start number name

-- the numbers of all names but one that were kept are kept
abbrev pub OthersStay : List ℕ → BTreeMap (Vec ℕ) ℕ → List ℕ → List ℕ → BTreeMap (Vec ℕ) ℕ → Type 0
OthersStay slots overflow name further wider =
    (known : ℕ) (other : List ℕ) → other ≢ name → 1 ≤ known → IsKept slots overflow known other → IsKept further wider known other

-- each name's number is kept
abbrev pub AreKept : List (List ℕ) → List ℕ → BTreeMap (Vec ℕ) ℕ → Type 0
AreKept names slots overflow = (number : ℕ) (name : List ℕ) → HasNumber names number name → IsKept slots overflow number name
