-- The number of a name among few names is small.
use Rattle.std.proofs.Common.{◌≡◌, ℕ, ◌≤◌, List, length, Option, Some, None, sym, arith}
use Rattle.std.specs.Prelude.{IfSome, ◌^◌}
use Rattle.numbered_names.specs.Names.{number_in}
use Rattle.numbered_names.proofs.CallerLemmas.{number_bound}

pub number_small : (names : List (List ℕ)) (name : List ℕ) (found : Option ℕ) → length names ≤ 2 ^ 19 → found ≡ number_in names name → IfSome found (λ number. number ≤ 2 ^ 19)
number_small names name None few is = tt
number_small names name (Some number) few is = let r = number_bound names name number (sym is) in omega (arith, r)
