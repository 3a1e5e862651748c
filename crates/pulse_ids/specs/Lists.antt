-- Words on lists that the definitions of all layers share.
use Rattle.std.specs.Prelude.{◌≡◌, ◌⊎◌, ◌+◌, ◌^◌, ℕ, zero, suc, Bool, false, List, [], ◌∷◌, ◌++◌, slice_index_or, nat_lt, if◌then◌else◌, ◌==◌}

-- x is an item of the list
abbrev pub IsIn : {X : Type 0} → X → List X → Type 0
IsIn x [] = ⊥
IsIn x (y ∷ ys) = (y ≡ x) ⊎ IsIn x ys

-- how often a number stands in a list
abbrev pub occurrences : ℕ → List ℕ → ℕ
occurrences n [] = 0
occurrences n (x ∷ xs) = (if n == x then 1 else 0) + occurrences n xs

-- the numbers below n, rising
abbrev pub upto : ℕ → List ℕ
upto zero = []
upto (suc n) = upto n ++ n ∷ []

-- k of the items have P
abbrev pub HowManyHave : {X : Type 0} → (X → Type 0) → List X → ℕ → Type 0
HowManyHave P [] k = k ≡ 0
HowManyHave P (x ∷ xs) k = (P x × (j : ℕ) × (k ≡ j + 1) × HowManyHave P xs j) ⊎ ((P x → ⊥) × HowManyHave P xs k)

-- the bit at a place, and 0 past the end
abbrev pub bit_at : List Bool → ℕ → Bool
bit_at bits k = slice_index_or bits k false

-- how many of the bits are 0
abbrev pub zeros_in : List Bool → ℕ
zeros_in [] = 0
zeros_in (bit ∷ bits) = (if bit then 0 else 1) + zeros_in bits

-- how many of the first powers of 2 are below n
abbrev pub powers_below : ℕ → ℕ → ℕ
powers_below n zero = 0
powers_below n (suc k) = (if nat_lt (2 ^ k) n then 1 else 0) + powers_below n k

-- how many powers of 2 are below n, which is the logarithm of n rounded up
abbrev pub ceil_log2 : ℕ → ℕ
ceil_log2 n = powers_below n n
