-- No number is above that of the last name: the lemmas that the crates above may cite.
use Rattle.std.proofs.Common.{◌≡◌, ℕ, suc, ◌+◌, ◌<◌, ◌≤◌, cond, Bool, true, false, List, [], ◌∷◌, length, Option, Some, arith}
use Rattle.std.specs.Str.{bytes_eq}
use Rattle.numbered_names.specs.Names.{number_from, number_in}

first_within : (first number : ℕ) (later : Option ℕ) (count : ℕ) (b : Bool) → (later ≡ Some number → number < first + 1 + count) → cond b (Some first) later ≡ Some number → number < first + suc count
first_within first number later count true rest e = let same : first ≡ number = cc in omega arith
first_within first number later count false rest e = let r = rest e in omega (arith, r)

pub number_within : (first : ℕ) (names : List (List ℕ)) (name : List ℕ) (number : ℕ) → number_from first names name ≡ Some number → number < first + length names
number_within first [] name number h = absurd cc
number_within first (other ∷ names) name number h = first_within first number (number_from (first + 1) names name) (length names) (bytes_eq name other) (number_within (first + 1) names name number) h

pub number_bound : (names : List (List ℕ)) (name : List ℕ) (number : ℕ) → number_in names name ≡ Some number → number ≤ length names
number_bound names name number h = let r = number_within 1 names name number h in omega (arith, r)
