-- Lines of another number of words, or with a word that is no decimal.
use Rattle.std.proofs.Common.{◌≡◌, ℕ, ◌<◌, List, [], ◌∷◌, length, Option, Some, None, refl, arith}
use Rattle.aiger_reader.specs.Numbers.{one_of, one_or_two_of, two_or_three_of, three_of}

-- more than nine numbers, or none
abbrev pub IsLong : Option (List ℕ) → Type 0
IsLong found = (numbers : List ℕ) → found ≡ Some numbers → 9 < length numbers

pub not_one : (found : Option (List ℕ)) → IsLong found → one_of found ≡ None
not_one None h = refl
not_one (Some []) h = refl
not_one (Some (a ∷ [])) h = absurd (omega (arith, h (a ∷ []) refl))
not_one (Some (a ∷ b ∷ more)) h = refl

pub not_one_or_two : (found : Option (List ℕ)) → IsLong found → one_or_two_of found ≡ None
not_one_or_two None h = refl
not_one_or_two (Some []) h = refl
not_one_or_two (Some (a ∷ [])) h = absurd (omega (arith, h (a ∷ []) refl))
not_one_or_two (Some (a ∷ b ∷ [])) h = absurd (omega (arith, h (a ∷ b ∷ []) refl))
not_one_or_two (Some (a ∷ b ∷ c ∷ more)) h = refl

pub not_two_or_three : (found : Option (List ℕ)) → IsLong found → two_or_three_of found ≡ None
not_two_or_three None h = refl
not_two_or_three (Some []) h = refl
not_two_or_three (Some (a ∷ [])) h = refl
not_two_or_three (Some (a ∷ b ∷ [])) h = absurd (omega (arith, h (a ∷ b ∷ []) refl))
not_two_or_three (Some (a ∷ b ∷ c ∷ [])) h = absurd (omega (arith, h (a ∷ b ∷ c ∷ []) refl))
not_two_or_three (Some (a ∷ b ∷ c ∷ d ∷ more)) h = refl

pub not_three : (found : Option (List ℕ)) → IsLong found → three_of found ≡ None
not_three None h = refl
not_three (Some []) h = refl
not_three (Some (a ∷ [])) h = refl
not_three (Some (a ∷ b ∷ [])) h = refl
not_three (Some (a ∷ b ∷ c ∷ [])) h = absurd (omega (arith, h (a ∷ b ∷ c ∷ []) refl))
not_three (Some (a ∷ b ∷ c ∷ d ∷ more)) h = refl
