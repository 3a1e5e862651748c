-- Numbers read from left to right.
use Rattle.std.proofs.Common.{◌≡◌, ℕ, ◌<◌, List, [], ◌∷◌, ◌++◌, length, Option, Some, None, refl, sym, ap, ◌∙◌, append_assoc, arith}
use Rattle.std.specs.Prelude.{option_and_then, option_map}
use Rattle.std.proofs.lemmas.List.{append-nil, length-append}
use Rattle.word_scan.specs.Decimals.{decimal_of}
use Rattle.aiger_reader.specs.Numbers.{numbers_in}

-- what was read before, and the numbers of further words
abbrev pub with_read : List ℕ → Option (List ℕ) → Option (List ℕ)
with_read read numbers = option_map (λ more. read ++ more) numbers

regroup : (read : List ℕ) (number : ℕ) (more : Option (List ℕ)) → with_read read (option_map (λ numbers. number ∷ numbers) more) ≡ with_read (read ++ number ∷ []) more
regroup read number None = refl
regroup read number (Some more) = ap (λ (ns : List ℕ). Some ns) (sym (append_assoc read (number ∷ []) more))

-- one word more
pub number_more : (read : List ℕ) (word : List ℕ) (words : List (List ℕ)) (number : ℕ) → decimal_of word ≡ Some number
    → with_read read (numbers_in (word ∷ words)) ≡ with_read (read ++ number ∷ []) (numbers_in words)
number_more read word words number h =
    ap (λ (o : Option ℕ). with_read read (option_and_then (λ n. option_map (λ numbers. n ∷ numbers) (numbers_in words)) o)) h ∙ regroup read number (numbers_in words)

-- a word that is no decimal
pub number_none : (read : List ℕ) (word : List ℕ) (words : List (List ℕ)) → decimal_of word ≡ None → with_read read (numbers_in (word ∷ words)) ≡ None
number_none read word words h =
    ap (λ (o : Option ℕ). with_read read (option_and_then (λ n. option_map (λ numbers. n ∷ numbers) (numbers_in words)) o)) h

pub number_end : (read : List ℕ) → with_read read (numbers_in []) ≡ Some read
number_end read = ap (λ (ns : List ℕ). Some ns) (append-nil read)

longer : (read : List ℕ) (first : Option ℕ) (others : Option (List ℕ)) (found : List ℕ)
    → with_read read (option_and_then (λ n. option_map (λ numbers. n ∷ numbers) others) first) ≡ Some found → length read < length found
longer read None others found h = absurd cc
longer read (Some n) None found h = absurd cc
longer read (Some n) (Some ns) found h =
    let e : found ≡ read ++ n ∷ ns = cc in
    omega (arith, ap length e, length-append read (n ∷ ns))

pub too_many : (read : List ℕ) (word : List ℕ) (words : List (List ℕ)) (found : List ℕ) → with_read read (numbers_in (word ∷ words)) ≡ Some found → length read < length found
too_many read word words found h = longer read (decimal_of word) (numbers_in words) found h
