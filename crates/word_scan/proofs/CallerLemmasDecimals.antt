-- For callers: decimals that are written and read back, and words that a byte parts.
use Rattle.std.proofs.Common.{◌≡◌, ◌^◌, ℕ, zero, suc, ◌+◌, ◌%◌, ◌<◌, ◌≤◌, ◌&&◌, eqb, ltb, cond, Bool, true, false, List, [], ◌∷◌, ◌++◌, length, take, drop, slice_index, decimal, Some, None, refl, ap, ◌∙◌, add-one, arith}
use Rattle.std.specs.Prelude.{option_map}
use Rattle.std.specs.Str.{all_ascii_digits}
use Rattle.std.specs.Str.Parse.{digits_value}
use Rattle.std.specs.List.{position, position_or_len}
use Rattle.std.proofs.lemmas.Bool.{lt-ltb, ne_eqb, eq-eqb}
use Rattle.std.proofs.lemmas.List.{length-append}
use Rattle.std.proofs.lemmas.Fmt.{decimal_by_steps, decimal_is_IsNumeral, digits_decimal, decimal_digit}
use Rattle.std.proofs.lemmas.Str.Parse.{tells_all_ascii_digits, numerals_by_value}
use Rattle.word_scan.specs.Decimals.{decimal_of, plain_decimal_of}
use Rattle.word_scan.specs.Words.{parted}

-- a byte stands nowhere in a word
abbrev pub IsFree : ℕ → List ℕ → Type 0
IsFree t [] = Unit
IsFree t (b ∷ w) = (eqb b t ≡ false) × IsFree t w

pub free_joined : (t : ℕ) (w v : List ℕ) → IsFree t w → IsFree t v → IsFree t (w ++ v)
free_joined t [] v f g = g
free_joined t (b ∷ w) v f g = (f.0, free_joined t w v f.1 g)

place_at : (t : ℕ) (w rest : List ℕ) → IsFree t w → eqb t t ≡ true → position_or_len (λ b. eqb b t) (w ++ t ∷ rest) ≡ length w
place_at t [] rest f same = rw same refl
place_at t (b ∷ w) rest f same = rw f.0 (ap (λ n. 1 + n) (place_at t w rest f.1 same) ∙ omega arith)

take_word : (w rest : List ℕ) → take (length w) (w ++ rest) ≡ w
take_word [] rest = refl
take_word (b ∷ w) rest = ap (λ (l : List ℕ). b ∷ l) (take_word w rest)

drop_past : (t : ℕ) (w rest : List ℕ) → drop (suc (length w)) (w ++ t ∷ rest) ≡ rest
drop_past t [] rest = refl
drop_past t (b ∷ w) rest = drop_past t w rest

abbrev cut_at : List ℕ → ℕ → List ℕ × List ℕ
cut_at line end = (take end line, drop (end + 1) line)

-- a text is parted behind a word in which the byte doesn't stand
pub parted_at : (t : ℕ) (w rest : List ℕ) → IsFree t w → parted t (w ++ t ∷ rest) ≡ Some (w, rest)
parted_at t w rest f =
    let line : List ℕ = w ++ t ∷ rest in
    let at = place_at t w rest f (eq-eqb t t refl) in
    let inside : ltb (length w) (length line) ≡ true = lt-ltb _ _ (omega (arith, length-append w (t ∷ rest))) in
    let found : position (λ b. eqb b t) line ≡ Some (length w) = rw (at, inside) refl in
    ap (option_map (cut_at line)) found ∙ rw (take_word w (t ∷ rest), add-one (length w), drop_past t w rest) refl

digit_free : (t d : ℕ) → t < 48 → eqb (48 + d) t ≡ false
digit_free t d lt = ne_eqb (48 + d) t (λ e. omega arith)

-- a byte below the digits stands in no decimal
pub decimal_free : (t n : ℕ) → t < 48 → n < 2 ^ 64 → IsFree t (decimal n)
decimal_free t n lt fits = decimal_by_steps (λ n ds. IsFree t ds)
    (λ n small. (digit_free t n lt, tt))
    (λ n ds big so_far. free_joined t ds ((48 + n % 10) ∷ []) so_far (digit_free t (n % 10) lt, tt)) n fits

-- the first digit of a decimal, which is 0 in that of 0 alone
pub record Begins (n : ℕ) (digits : List ℕ) : Type 0 where
  pub first : ℕ
  pub others : List ℕ
  pub is : digits ≡ first ∷ others
  pub digit : 48 ≤ first
  pub high : 0 < n → 49 ≤ first

pub decimal_begins : (n : ℕ) → n < 2 ^ 64 → Begins n (decimal n)
decimal_begins n fits = decimal_by_steps (λ n ds. Begins n ds)
    (λ n small. record { first = 48 + n; others = []; is = refl; digit = omega arith; high = λ h. omega arith })
    (λ n ds big so_far. record {
      first = so_far.first;
      others = so_far.others ++ (48 + n % 10) ∷ [];
      is = ap (λ (l : List ℕ). l ++ (48 + n % 10) ∷ []) so_far.is;
      digit = so_far.digit;
      high = λ h. so_far.high (omega arith);
    }) n fits

pub decimal_read : (n : ℕ) → n < 2 ^ 32 → decimal_of (decimal n) ≡ Some n
decimal_read n lt =
    let b = decimal_begins n (omega arith) in
    let some : ltb 0 (length (decimal n)) ≡ true = lt-ltb _ _ (omega (arith, ap length b.is)) in
    let digits : all_ascii_digits (decimal n) ≡ true = digits_decimal (numerals_by_value (λ ds. all_ascii_digits ds ≡ true) tells_all_ascii_digits) n (omega arith) in
    let value : digits_value 10 (decimal n) ≡ n = (decimal_is_IsNumeral n (omega arith)).1 in
    let small : ltb n (2 ^ 32) ≡ true = lt-ltb _ _ lt in
    rw (value, some, digits, small) refl

-- what is written is read back
pub plain_decimal_read : (n : ℕ) → n < 2 ^ 32 → plain_decimal_of (decimal n) ≡ Some n
plain_decimal_read zero lt = ap plain_decimal_of (decimal_digit 0 (omega arith))
plain_decimal_read (suc k) lt =
    let b = decimal_begins (suc k) (omega arith) in
    let first : eqb (slice_index (decimal (suc k)) 0) 48 ≡ false = ap (λ (l : List ℕ). eqb (slice_index l 0) 48) b.is ∙ ne_eqb b.first 48 (λ e. let h = b.high (omega arith) in omega arith) in
    no_zero (decimal (suc k)) (ltb 1 (length (decimal (suc k)))) first ∙ decimal_read (suc k) lt
  where
    no_zero : (ds : List ℕ) (long : Bool) → eqb (slice_index ds 0) 48 ≡ false → cond (long && eqb (slice_index ds 0) 48) None (decimal_of ds) ≡ decimal_of ds
    no_zero ds true e = rw e refl
    no_zero ds false e = refl
