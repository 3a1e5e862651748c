-- The text of a counter of one bit.
use Rattle.std.proofs.Common.{◌≡◌, [], ◌∷◌, ◌++◌, List, ℕ, decimal, ◌∙◌, ap, arith}
use Rattle.std.proofs.lemmas.Fmt.{decimal_digit, decimal_step}
use Rattle.counter_sources.specs.Sources.{OneBitIsWritten}

ten : decimal 10 ≡ 49 ∷ 48 ∷ []
ten = decimal_step 10 (omega arith) (omega arith) ∙ ap (λ (l : List ℕ). l ++ 48 ∷ []) (decimal_digit 1 (omega arith))

pub one_bit_is_written : OneBitIsWritten
one_bit_is_written =
    let d1 = decimal_digit 1 (omega arith) in
    let d2 = decimal_digit 2 (omega arith) in
    let d3 = decimal_digit 3 (omega arith) in
    let d4 = decimal_digit 4 (omega arith) in
    let d5 = decimal_digit 5 (omega arith) in
    let d6 = decimal_digit 6 (omega arith) in
    let d7 = decimal_digit 7 (omega arith) in
    let d8 = decimal_digit 8 (omega arith) in
    let d9 = decimal_digit 9 (omega arith) in
    simp (d1, d2, d3, d4, d5, d6, d7, d8, d9, ten)
