-- Plain decimals are the decimals that are written.
use Rattle.std.proofs.Common.{◌≡◌, ℕ, ◌+◌, ◌-◌, ◌*◌, ◌/◌, ◌%◌, ◌^◌, ◌<◌, ◌≤◌, Bool, true, false, cond, eqb, ltb, ◌&&◌, List, [], ◌∷◌, ◌++◌, length, decimal, Option, Some, None, refl, sym, ap, subst, ◌∙◌, append_assoc, arith}
use Rattle.std.specs.Prelude.{IfSome, IfNone}
use Rattle.std.specs.Char.{is_ascii_digit, digit_value}
use Rattle.std.specs.Str.{all_ascii_digits}
use Rattle.std.specs.Str.Parse.{digits_value, digits_value_after}
use Rattle.std.proofs.lemmas.Bool.{ltb-true, eqb-false, lt-ltb}
use Rattle.std.proofs.lemmas.Bool.Decides.{nat_tests}
use Rattle.std.proofs.lemmas.Fmt.{decimal_step, decimal_digit}
use Rattle.std.proofs.lemmas.List.{append-nil}
use Rattle.word_scan.specs.Decimals.{decimal_of, is_decimal, plain_decimal_of}
use Rattle.word_scan.proofs.DigitLemmas.{grows}
use Rattle.word_scan.proofs.CallerLemmasDecimals.{plain_decimal_read}

both : (a b : Bool) → (a && b) ≡ true → (a ≡ true) × (b ≡ true)
both true b e = (refl, e)
both false b e = absurd cc

digit_is : (byte : ℕ) → is_ascii_digit byte ≡ true → (digit_value byte ≡ byte - 48) × (48 ≤ byte) × (byte ≤ 57)
digit_is byte h = (grind (arith, nat_tests), grind (arith, nat_tests), grind (arith, nat_tests))

-- further digits stand behind the digits of a number that isn't 0
written_on : (value : ℕ) (bytes : List ℕ) → 0 < value → all_ascii_digits bytes ≡ true → digits_value_after 10 value bytes < 2 ^ 32
    → decimal (digits_value_after 10 value bytes) ≡ decimal value ++ bytes
written_on value [] some digits small = sym (append-nil (decimal value))
written_on value (byte ∷ bytes) some digits small =
    let d = both (is_ascii_digit byte) (all_ascii_digits bytes) digits in
    let is = digit_is byte d.0 in
    let next : ℕ = value * 10 + digit_value byte in
    let least : next ≤ digits_value_after 10 next bytes = grows next bytes in
    let tens : next / 10 ≡ value = omega (arith, is.0, is.1, is.2) in
    let ones : 48 + next % 10 ≡ byte = omega (arith, is.0, is.1, is.2) in
    let step : decimal next ≡ decimal value ++ byte ∷ [] = decimal_step next (omega (arith, some)) (omega (arith, least, small)) ∙ rw (tens, ones) refl in
    written_on next bytes (omega (arith, some)) d.1 small ∙ ap (λ (l : List ℕ). l ++ bytes) step ∙ append_assoc (decimal value) (byte ∷ []) bytes

not_stopped : (b : Bool) (x : Option ℕ) (n : ℕ) → cond b None x ≡ Some n → (b ≡ false) × (x ≡ Some n)
not_stopped true x n e = absurd cc
not_stopped false x n e = (refl, e)

is_kept : (b : Bool) (v n : ℕ) → ◌≡◌ {A = Option ℕ} (cond b (Some v) None) (Some n) → (b ≡ true) × (v ≡ n)
is_kept true v n e = (refl, cc)
is_kept false v n e = absurd cc

-- the parts of a decimal
record Digits (bytes : List ℕ) (n : ℕ) : Type 0 where
  some : 0 < length bytes
  digits : all_ascii_digits bytes ≡ true
  small : n < 2 ^ 32
  value : digits_value 10 bytes ≡ n

digits_of : (bytes : List ℕ) (n : ℕ) → decimal_of bytes ≡ Some n → Digits bytes n
digits_of bytes n e =
    let k = is_kept (is_decimal bytes) (digits_value 10 bytes) n e in
    let p = both (ltb 0 (length bytes)) (all_ascii_digits bytes && ltb (digits_value 10 bytes) (2 ^ 32)) k.0 in
    let q = both (all_ascii_digits bytes) (ltb (digits_value 10 bytes) (2 ^ 32)) p.1 in
    let lt : digits_value 10 bytes < 2 ^ 32 = ltb-true _ _ q.1 in
    record { some = ltb-true _ _ p.0; digits = q.0; small = omega (arith, lt, k.1); value = k.1 }

long_written : (first : ℕ) (bytes : List ℕ) (n : ℕ) → eqb first 48 ≡ false → Digits (first ∷ bytes) n → first ∷ bytes ≡ decimal n
long_written first bytes n other d =
    let p = both (is_ascii_digit first) (all_ascii_digits bytes) d.digits in
    let is = digit_is first p.0 in
    let high : first ≡ 48 → ⊥ = eqb-false first 48 other in
    let some : 0 < digit_value first = omega (arith, is.0, is.1, is.2, high) in
    let alone : 0 + digit_value first ≡ digit_value first = omega arith in
    let value : digits_value_after 10 (digit_value first) bytes ≡ n = subst (λ v. digits_value_after 10 v bytes ≡ n) alone d.value in
    let one : decimal (digit_value first) ≡ first ∷ [] = decimal_digit (digit_value first) (omega (arith, is.0, is.2)) ∙ ap (λ (b : ℕ). b ∷ []) (omega (arith, is.0, is.1)) in
    ap (λ (l : List ℕ). l ++ bytes) (sym one) ∙ sym (written_on (digit_value first) bytes some p.1 (omega (arith, value, d.small))) ∙ ap decimal value

single_written : (first n : ℕ) → Digits (first ∷ []) n → first ∷ [] ≡ decimal n
single_written first n d =
    let p = both (is_ascii_digit first) true d.digits in
    let is = digit_is first p.0 in
    let value : digit_value first ≡ n = omega (arith, d.value) in
    ap (λ (b : ℕ). b ∷ []) (omega (arith, value, is.0, is.1, is.2)) ∙ sym (decimal_digit n (omega (arith, value, is.0, is.2)))

-- what is read as a plain decimal is one
plain_is_written : (bytes : List ℕ) (n : ℕ) → plain_decimal_of bytes ≡ Some n → bytes ≡ decimal n
plain_is_written [] n e = absurd cc
plain_is_written (first ∷ []) n e = single_written first n (digits_of (first ∷ []) n e)
plain_is_written (first ∷ second ∷ bytes) n e =
    let long : ltb 1 (length (first ∷ second ∷ bytes)) ≡ true = lt-ltb 1 _ (omega arith) in
    let k = not_stopped (ltb 1 (length (first ∷ second ∷ bytes)) && eqb first 48) (decimal_of (first ∷ second ∷ bytes)) n e in
    let other : eqb first 48 ≡ false = sym (ap (λ b. b && eqb first 48) long) ∙ k.0 in
    long_written first (second ∷ bytes) n other (digits_of (first ∷ second ∷ bytes) n k.1)

-- what isn't read is none below 2^32
none_is_unwritten : (bytes : List ℕ) → plain_decimal_of bytes ≡ None → (n : ℕ) → n < 2 ^ 32 → bytes ≡ decimal n → ⊥
none_is_unwritten bytes none n lt e = let same : plain_decimal_of bytes ≡ Some n = ap plain_decimal_of e ∙ plain_decimal_read n lt in cc

pub found_is_written : (bytes : List ℕ) (result : Option ℕ) → result ≡ plain_decimal_of bytes → IfSome result (λ number. bytes ≡ decimal number)
found_is_written bytes (Some n) e = plain_is_written bytes n (sym e)
found_is_written bytes None e = tt

pub none_is_written : (bytes : List ℕ) (result : Option ℕ) → result ≡ plain_decimal_of bytes → IfNone result ((n : ℕ) → n < 2 ^ 32 → bytes ≡ decimal n → ⊥)
none_is_written bytes (Some n) e = tt
none_is_written bytes None e = none_is_unwritten bytes (sym e)
