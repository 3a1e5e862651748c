-- Decimals read digit by digit.
use Rattle.std.proofs.Common.{◌≡◌, ℕ, ◌+◌, ◌-◌, ◌*◌, ◌^◌, ◌<◌, ◌≤◌, Bool, true, false, cond, ltb, ◌&&◌, ◌==◌, List, [], ◌∷◌, length, Option, Some, None, suc, refl, ap, inl, inr, ◌⊎◌, arith}
use Rattle.std.specs.Prelude.{option_and_then}
use Rattle.std.specs.Char.{is_ascii_digit, digit_value}
use Rattle.std.specs.Str.{all_ascii_digits}
use Rattle.std.specs.Str.Parse.{digits_value_after}
use Rattle.std.proofs.lemmas.Bool.{le-ltb, lt-ltb, cases_lt}
use Rattle.std.proofs.lemmas.Bool.Decides.{nat_tests}
use Rattle.word_scan.specs.Decimals.{digit_more, decimal_of}

-- the number of further digits
abbrev pub value_from : ℕ → List ℕ → Option ℕ
value_from value [] = Some value
value_from value (byte ∷ bytes) = option_and_then (λ v. value_from v bytes) (digit_more value byte)

pub grows : (value : ℕ) (bytes : List ℕ) → value ≤ digits_value_after 10 value bytes
grows value [] = omega arith
grows value (byte ∷ bytes) = omega (arith, grows (value * 10 + digit_value byte) bytes)

digit_is : (byte : ℕ) → is_ascii_digit byte ≡ true → digit_value byte ≡ byte - 48
digit_is byte h = grind (arith, nat_tests)

after_big : (others : Bool) (n : ℕ) → 2 ^ 32 ≤ n → ◌≡◌ {A = Option ℕ} None (cond (others && ltb n (2 ^ 32)) (Some n) None)
after_big true n big = let e : ltb n (2 ^ 32) ≡ false = le-ltb n (2 ^ 32) big in rw e refl
after_big false n big = refl

end_is : (value : ℕ) → value < 2 ^ 32 → ◌≡◌ {A = Option ℕ} (Some value) (cond (ltb value (2 ^ 32)) (Some value) None)
end_is value small = let e : ltb value (2 ^ 32) ≡ true = lt-ltb value (2 ^ 32) small in rw e refl

abbrev written : ℕ → List ℕ → Option ℕ
written value bytes = cond (all_ascii_digits bytes && ltb (digits_value_after 10 value bytes) (2 ^ 32)) (Some (digits_value_after 10 value bytes)) None

digit_step : (value byte : ℕ) (bytes : List ℕ) → ((v : ℕ) → v < 2 ^ 32 → value_from v bytes ≡ written v bytes) → is_ascii_digit byte ≡ true
    → value_from value (byte ∷ bytes) ≡ written value (byte ∷ bytes)
digit_step value byte bytes rest hit =
    let d : digit_value byte ≡ byte - 48 = digit_is byte hit in
    elim (cases_lt (value * 10 + (byte - 48)) (2 ^ 32)) [
      | inl small ↦ let e : ltb (value * 10 + (byte - 48)) (2 ^ 32) ≡ true = lt-ltb _ _ small in rw (hit, d, e) (rest (value * 10 + (byte - 48)) small)
      | inr big ↦ let e : ltb (value * 10 + (byte - 48)) (2 ^ 32) ≡ false = le-ltb _ _ big in rw (hit, d, e)
          (after_big (all_ascii_digits bytes) (digits_value_after 10 (value * 10 + (byte - 48)) bytes) (omega (arith, grows (value * 10 + (byte - 48)) bytes)))
    ]

other_step : (value byte : ℕ) (bytes : List ℕ) → is_ascii_digit byte ≡ false → value_from value (byte ∷ bytes) ≡ written value (byte ∷ bytes)
other_step value byte bytes miss = rw miss refl

same_bool : (b : Bool) → (b ≡ true) ⊎ (b ≡ false)
same_bool true = inl refl
same_bool false = inr refl

pub value_is : (value : ℕ) (bytes : List ℕ) → value < 2 ^ 32 → value_from value bytes ≡ written value bytes
value_is value [] small = end_is value small
value_is value (byte ∷ bytes) small =
    elim (same_bool (is_ascii_digit byte)) [
      | inl hit ↦ digit_step value byte bytes (λ v h. value_is v bytes h) hit
      | inr miss ↦ other_step value byte bytes miss
    ]

pub decimal_is : (bytes : List ℕ) → (length bytes == 0) ≡ false → value_from 0 bytes ≡ decimal_of bytes
decimal_is [] some = absurd cc
decimal_is (byte ∷ bytes) some =
    let e : ltb 0 (suc (length bytes)) ≡ true = lt-ltb 0 (suc (length bytes)) (omega arith) in
    rw e (value_is 0 (byte ∷ bytes) (omega arith))

pub value_stops : (value byte : ℕ) (bytes : List ℕ) → digit_more value byte ≡ None → value_from value (byte ∷ bytes) ≡ None
value_stops value byte bytes h = ap (option_and_then (λ v. value_from v bytes)) h

pub value_more : (value byte next : ℕ) (bytes : List ℕ) → digit_more value byte ≡ Some next → value_from value (byte ∷ bytes) ≡ value_from next bytes
value_more value byte next bytes h = ap (option_and_then (λ v. value_from v bytes)) h
