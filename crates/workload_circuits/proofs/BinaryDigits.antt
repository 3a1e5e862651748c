-- Numbers by their binary digits, and the sum of a number and one digit.
use Rattle.std.proofs.Common.{◌≡◌, ℕ, zero, suc, ◌+◌, ◌*◌, ◌^◌, ◌<◌, Bool, true, false, not, ◌&&◌, if◌then◌else◌, List, [], ◌∷◌, ◌++◌, length, map, refl, ◌∙◌, ap, arith}
use Rattle.std.proofs.lemmas.List.{map_push, length-map}
use Rattle.std.proofs.Math.Nat.{pow-suc}
use Rattle.pulse_ids.specs.Lists.{upto}
use Rattle.pulse_ids.proofs.CallerLemmasOnCounts.{length-upto}
use Rattle.workload_circuits.specs.Counting.{binary}

pub double : (k : ℕ) → 2 ^ suc k ≡ 2 * 2 ^ k
double k = let e = pow-suc 2 k in omega arith

-- what a digit is worth at a place
abbrev pub weight : Bool → ℕ → ℕ
weight digit place = if digit then 2 ^ place else 0

weight_next : (digit : Bool) (place : ℕ) → weight digit (suc place) ≡ 2 * weight digit place
weight_next true place = double place
weight_next false place = omega arith

weight_first : (digit : Bool) → weight digit 0 ≡ (if digit then 1 else 0)
weight_first true = refl
weight_first false = refl

binary-last : (digits : List Bool) (digit : Bool) → binary (digits ++ digit ∷ []) ≡ binary digits + weight digit (length digits)
binary-last [] digit = let e = weight_first digit in omega arith
binary-last (first ∷ digits) digit =
    let rest = binary-last digits digit in
    let e = weight_next digit (length digits) in
    let more : length (first ∷ digits) ≡ suc (length digits) = omega arith in
    let same = ap (weight digit) more in
    omega arith

pub binary_below : (digits : List Bool) → binary digits < 2 ^ length digits
binary_below [] = omega arith
binary_below (true ∷ digits) = let rest = binary_below digits in
    let e = double (length digits) in
    let more : length (true ∷ digits) ≡ suc (length digits) = omega arith in
    let same = ap (λ (n : ℕ). 2 ^ n) more in omega arith
binary_below (false ∷ digits) = let rest = binary_below digits in
    let e = double (length digits) in
    let more : length (false ∷ digits) ≡ suc (length digits) = omega arith in
    let same = ap (λ (n : ℕ). 2 ^ n) more in omega arith

-- digits by their places
pub digits_more : (f : ℕ → Bool) (count : ℕ) → binary (map f (upto (suc count))) ≡ binary (map f (upto count)) + weight (f count) count
digits_more f count =
    ap binary (map_push f (upto count) count) ∙ binary-last (map f (upto count)) (f count)
    ∙ ap (λ (n : ℕ). binary (map f (upto count)) + weight (f count) n) (length-map (upto count) f ∙ length-upto count)

-- the digits of a sum: a digit and what comes in give the digit next and what goes on
pub digit_sum : (held incoming : Bool) (place : ℕ)
    → weight (not (held && incoming) && not (not held && not incoming)) place + weight (held && incoming) (suc place) ≡ weight held place + weight incoming place
digit_sum true true place = let e = double place in omega arith
digit_sum true false place = omega arith
digit_sum false true place = omega arith
digit_sum false false place = omega arith

-- where each place sums its digit and what comes in, the sum of all is the number and what comes into the lowest place
pub sum_is : (held incoming next : ℕ → Bool) (count : ℕ)
    → ((place : ℕ) → place < count → incoming (suc place) ≡ held place && incoming place)
    → ((place : ℕ) → place < count → next place ≡ not (incoming (suc place)) && not (not (held place) && not (incoming place)))
    → binary (map next (upto count)) + weight (incoming count) count ≡ binary (map held (upto count)) + (if incoming 0 then 1 else 0)
sum_is held incoming next zero carries sums = let e = weight_first (incoming 0) in omega arith
sum_is held incoming next (suc count) carries sums =
    let below = sum_is held incoming next count (λ place lt. carries place (omega arith)) (λ place lt. sums place (omega arith)) in
    let on : incoming (suc count) ≡ held count && incoming count = carries count (omega arith) in
    let here : next count ≡ not (held count && incoming count) && not (not (held count) && not (incoming count)) =
    sums count (omega arith) ∙ ap (λ (b : Bool). not b && not (not (held count) && not (incoming count))) on in
    let digit = digit_sum (held count) (incoming count) count in
    let first = ap (λ (b : Bool). weight b count) here in
    let second = ap (λ (b : Bool). weight b (suc count)) on in
    let new = digits_more next count in
    let old = digits_more held count in
    omega arith
