-- Powers of 2 and logarithms.
use Rattle.std.proofs.Common.{◌≡◌, ◌≤◌, ◌<◌, ◌+◌, ◌*◌, ◌^◌, ◌⊎◌, inl, inr, ℕ, zero, suc, Bool, true, false, refl, arith, nat_lt, if◌then◌else◌}
use Rattle.std.proofs.Math.Nat.{pow-suc}
use Rattle.std.proofs.lemmas.Bool.{ltb-true, ltb-false, cases_lt}
use Rattle.pulse_ids.specs.Lists.{powers_below, ceil_log2}

pub two_to : (d : ℕ) → 2 ^ (suc d) ≡ 2 * 2 ^ d
two_to d = let e = pow-suc 2 d in omega arith

powers_grow : (m n : ℕ) → m ≤ n → 2 ^ m ≤ 2 ^ n
powers_grow zero zero h = omega arith
powers_grow zero (suc n) h = let e = powers_grow zero n (omega arith) in omega (arith, two_to n)
powers_grow (suc m) zero h = absurd (omega arith)
powers_grow (suc m) (suc n) h = let e = powers_grow m n (omega arith) in omega (arith, two_to n, two_to m)

below_power : (n : ℕ) → n < 2 ^ n
below_power zero = omega arith
below_power (suc n) = let e = below_power n in omega (arith, two_to n)

-- the powers that are counted are all of them, or reach the number
all_or_enough : (n m : ℕ) → (powers_below n m ≡ m) ⊎ ((powers_below n m ≤ m) × (n ≤ 2 ^ powers_below n m))
all_or_enough n zero = inl refl
all_or_enough n (suc m) = by (nat_lt (2 ^ m) n) refl (all_or_enough n m)
  where
    by : (b : Bool) → nat_lt (2 ^ m) n ≡ b → (powers_below n m ≡ m) ⊎ ((powers_below n m ≤ m) × (n ≤ 2 ^ powers_below n m))
        → ((if b then 1 else 0) + powers_below n m ≡ suc m) ⊎ (((if b then 1 else 0) + powers_below n m ≤ suc m) × (n ≤ 2 ^ ((if b then 1 else 0) + powers_below n m)))
    by true e (inl all) = inl (omega arith)
    by true e (inr h) = let low = ltb-true (2 ^ m) n e in absurd (omega (arith, powers_grow (powers_below n m) m h.0, h.1))
    by false e (inl all) = inr (omega arith, not_below e all)
      where
        not_below : nat_lt (2 ^ m) n ≡ false → powers_below n m ≡ m → n ≤ 2 ^ (0 + powers_below n m)
        not_below e all = let z : 0 + powers_below n m ≡ m = omega arith in rw z (ltb-false (2 ^ m) n e)
    by false e (inr h) = let z : 0 + powers_below n m ≡ powers_below n m = omega arith in inr (omega arith, rw z h.1)

-- a number is at most the power of 2 whose exponent is its logarithm, rounded up
pub log_enough : (n : ℕ) → n ≤ 2 ^ ceil_log2 n
log_enough n = elim (all_or_enough n n) [
  | inl all ↦ rw all (omega (arith, below_power n))
  | inr h ↦ h.1
]

-- no lower exponent is enough
powers_enough : (n m d : ℕ) → n ≤ 2 ^ d → powers_below n m ≤ d
powers_enough n zero d h = omega arith
powers_enough n (suc m) d h = by (nat_lt (2 ^ m) n) refl (powers_enough n m d h) (all_or_enough n m)
  where
    by : (b : Bool) → nat_lt (2 ^ m) n ≡ b → powers_below n m ≤ d
        → (powers_below n m ≡ m) ⊎ ((powers_below n m ≤ m) × (n ≤ 2 ^ powers_below n m)) → (if b then 1 else 0) + powers_below n m ≤ d
    by false e r a = omega arith
    by true e r (inr a) = let low = ltb-true (2 ^ m) n e in absurd (omega (arith, powers_grow (powers_below n m) m a.0, a.1))
    by true e r (inl a) = let low = ltb-true (2 ^ m) n e in elim (cases_lt m d) [
      | inl lt ↦ omega arith
      | inr le ↦ absurd (omega (arith, powers_grow d m le))
    ]

pub logs_grow : (a b : ℕ) → a ≤ b → ceil_log2 a ≤ ceil_log2 b
logs_grow a b h = powers_enough a a (ceil_log2 b) (omega (arith, log_enough b))
