-- Characters that are noted one after the other, and how many pulses they tell of.
use mir.Val.{bool_byte}
use Rattle.std.proofs.Common.{◌≡◌, ◌+◌, ◌<◌, ◌≤◌, ℕ, zero, suc, Bool, true, false, Some, List, [], ◌∷◌, ◌++◌, map, length, sum, take, set, slice_get, if◌then◌else◌, ap, sym, ◌∙◌, arith, refl}
use Rattle.std.proofs.lemmas.List.{take_more_set}
use Rattle.std.proofs.lemmas.List.Sums.{sum_by_push}
use Rattle.pulse_traces.proofs.Lists.{take-more, take-all}

slice_get-map : (f : ℕ → ℕ) (xs : List ℕ) (at x : ℕ) → slice_get xs at ≡ Some x → slice_get (map f xs) at ≡ Some (f x)
slice_get-map f [] at x e = cc
slice_get-map f (y ∷ xs) zero x e = let same : y ≡ x = cc in ap (λ z. Some (f z)) same
slice_get-map f (y ∷ xs) (suc at) x e = slice_get-map f xs at x e

-- one character more
pub noted-more : (f : ℕ → ℕ) (digits counted : List ℕ) (at x d : ℕ) → at < length digits → take at digits ≡ take at (map f counted) → slice_get counted at ≡ Some x → d ≡ f x
    → take (at + 1) (set digits at d) ≡ take (at + 1) (map f counted)
noted-more f digits counted at x d less e is same =
    take_more_set digits at d less ∙ (ap (λ l. l ++ d ∷ []) e ∙ (ap (λ y. take at (map f counted) ++ y ∷ []) same ∙ sym (take-more (map f counted) at (f x) (slice_get-map f counted at x is))))

-- all characters
pub noted-all : (xs ys : List ℕ) (n : ℕ) → length xs ≤ n → length ys ≤ n → take n xs ≡ take n ys → xs ≡ ys
noted-all xs ys n le more e = sym (take-all xs n le) ∙ (e ∙ take-all ys n more)

-- one rail more
sum-more : (counted : List ℕ) (at x total more : ℕ) → slice_get counted at ≡ Some x → more ≡ x → total ≡ sum (take at counted)
    → total + more ≡ sum (take (at + 1) counted)
sum-more counted at x total more is same e =
    let sums = ap (λ l. sum l) (take-more counted at x is) ∙ sum_by_push (λ n. n) (take at counted) x in
    let so : sum (take (at + 1) counted) ≡ sum (take at counted) + x = sums in
    omega arith

byte-is : (pulsed : Bool) → bool_byte pulsed ≡ (if pulsed then 1 else 0)
byte-is true = refl
byte-is false = refl

byte-few : (pulsed : Bool) → bool_byte pulsed ≤ 1
byte-few true = omega arith
byte-few false = omega arith

pub counted-more : (counted : List ℕ) (at total : ℕ) (pulsed : Bool) → slice_get counted at ≡ Some (if pulsed then 1 else 0) → total ≡ sum (take at counted)
    → total + bool_byte pulsed ≡ sum (take (at + 1) counted)
counted-more counted at total pulsed is e = sum-more counted at (if pulsed then 1 else 0) total (bool_byte pulsed) is (byte-is pulsed) e

pub counted-few : (at total : ℕ) (pulsed : Bool) → total ≤ at → total + bool_byte pulsed ≤ at + 1
counted-few at total pulsed few = let one = byte-few pulsed in omega arith
