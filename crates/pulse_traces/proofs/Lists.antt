-- Items of lists.
use Rattle.pulse_ids.specs.Lists.{IsIn}
use Rattle.std.proofs.Common.{inr, ◌≡◌, ◌+◌, ◌≤◌, ◌<◌, ℕ, zero, suc, Some, List, [], ◌∷◌, ◌++◌, length, take, drop, replicate, slice_get, ap, subst, arith, refl}

-- an item more, and what is left after it
take-suc-more : {X : Type 0} (xs : List X) (at : ℕ) (x : X) → slice_get xs at ≡ Some x → take (suc at) xs ≡ take at xs ++ x ∷ []
take-suc-more [] at x e = cc
take-suc-more (y ∷ xs) zero x e = let same : y ≡ x = cc in ap (λ z. z ∷ []) same
take-suc-more (y ∷ xs) (suc at) x e = ap (λ (l : List _). y ∷ l) (take-suc-more xs at x e)

pub take-more : {X : Type 0} (xs : List X) (at : ℕ) (x : X) → slice_get xs at ≡ Some x → take (at + 1) xs ≡ take at xs ++ x ∷ []
take-more xs at x e = let next : suc at ≡ at + 1 = omega arith in subst (λ n. take n xs ≡ take at xs ++ x ∷ []) next (take-suc-more xs at x e)

drop-suc-more : {X : Type 0} (xs : List X) (at : ℕ) (x : X) → slice_get xs at ≡ Some x → drop at xs ≡ x ∷ drop (suc at) xs
drop-suc-more [] at x e = cc
drop-suc-more (y ∷ xs) zero x e = let same : y ≡ x = cc in ap (λ z. z ∷ xs) same
drop-suc-more (y ∷ xs) (suc at) x e = drop-suc-more xs at x e

pub drop-more : {X : Type 0} (xs : List X) (at : ℕ) (x : X) → slice_get xs at ≡ Some x → drop at xs ≡ x ∷ drop (at + 1) xs
drop-more xs at x e = let next : suc at ≡ at + 1 = omega arith in subst (λ n. drop at xs ≡ x ∷ drop n xs) next (drop-suc-more xs at x e)

pub take-length : {X : Type 0} (xs : List X) (at : ℕ) → at ≤ length xs → length (take at xs) ≡ at
take-length [] zero h = refl
take-length [] (suc at) h = absurd (omega arith)
take-length (x ∷ xs) zero h = refl
take-length (x ∷ xs) (suc at) h = ap suc (take-length xs at (omega arith))

pub drop-IsIn : {X : Type 0} (n : ℕ) (xs : List X) (x : X) → IsIn x (drop n xs) → IsIn x xs
drop-IsIn zero xs x i = i
drop-IsIn (suc n) [] x i = absurd i
drop-IsIn (suc n) (y ∷ ys) x i = inr (drop-IsIn n ys x i)

pub take-all : {X : Type 0} (xs : List X) (n : ℕ) → length xs ≤ n → take n xs ≡ xs
take-all [] zero h = refl
take-all [] (suc n) h = refl
take-all (x ∷ xs) zero h = absurd (omega arith)
take-all (x ∷ xs) (suc n) h = ap (λ (l : List _). x ∷ l) (take-all xs n (omega arith))

-- each item of a list of one item so many times
pub replicate-at : {X : Type 0} (n at : ℕ) (x : X) → at < n → slice_get (replicate n x) at ≡ Some x
replicate-at zero at x less = absurd (omega arith)
replicate-at (suc n) zero x less = refl
replicate-at (suc n) (suc at) x less = replicate-at n at x (omega arith)
