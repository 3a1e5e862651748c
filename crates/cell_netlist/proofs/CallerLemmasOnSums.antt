-- Sums over lists, and what they say of how often wires stand in lists: the lemmas that the crates above may cite.
use Rattle.std.proofs.Common.{◌≡◌, ℕ, zero, suc, ◌+◌, ◌≤◌, inl, inr, List, [], ◌∷◌, map, Bool, true, false, refl, sym, ◌∙◌, ap, arith}
use Rattle.std.specs.List.{flat_map}
use Rattle.pulse_ids.specs.Lists.{IsIn, occurrences}
use Rattle.pulse_ids.proofs.CallerLemmasOnCounts.{one_if, occurrences-append}

-- whether a count isn't 0
abbrev pub some : ℕ → Bool
some zero = false
some (suc n) = true

pub some-positive : (n : ℕ) → 1 ≤ n → some n ≡ true
some-positive zero h = absurd (omega arith)
some-positive (suc n) h = refl

pub some-is : (n : ℕ) (test : Bool) → n ≡ one_if test → some n ≡ test
some-is n true e = some-positive n (omega arith)
some-is n false e = ap some e

-- the sum of a function over a list
abbrev pub sum_over : {X : Type 0} → (X → ℕ) → List X → ℕ
sum_over f [] = 0
sum_over f (x ∷ xs) = f x + sum_over f xs

pub sum_over-less : {X : Type 0} (f g : X → ℕ) (xs : List X) → ((x : X) → IsIn x xs → f x ≤ g x) → sum_over f xs ≤ sum_over g xs
sum_over-less f g [] less = omega arith
sum_over-less f g (x ∷ xs) less =
    let l = less x (inl refl) in let r = sum_over-less f g xs (λ y i. less y (inr i)) in omega arith

pub sum_over-same : {X : Type 0} (f g : X → ℕ) (xs : List X) → ((x : X) → IsIn x xs → f x ≡ g x) → sum_over f xs ≡ sum_over g xs
sum_over-same f g [] same = refl
sum_over-same f g (x ∷ xs) same =
    let l = same x (inl refl) in let r = sum_over-same f g xs (λ y i. same y (inr i)) in omega arith

pub sum_over-sum : {X : Type 0} (f g : X → ℕ) (xs : List X) → sum_over (λ x. f x + g x) xs ≡ sum_over f xs + sum_over g xs
sum_over-sum f g [] = refl
sum_over-sum f g (x ∷ xs) = let r = sum_over-sum f g xs in omega arith

pub sum_over-zero : {X : Type 0} (xs : List X) → sum_over (λ x. 0) xs ≡ 0
sum_over-zero [] = refl
sum_over-zero (x ∷ xs) = let r = sum_over-zero xs in omega arith

-- an item's share of the sum
pub sum_over-share : {X : Type 0} (f : X → ℕ) (x : X) (xs : List X) → IsIn x xs → f x ≤ sum_over f xs
sum_over-share f x [] h = absurd h
sum_over-share f x (y ∷ xs) (inl e) = let s = ap f e in omega arith
sum_over-share f x (y ∷ xs) (inr h) = let r = sum_over-share f x xs h in omega arith

-- where all of a sum is one item's room, all of a smaller sum is that item's share
pub only_one : {X : Type 0} (f g : X → ℕ) (x : X) (xs : List X) → ((y : X) → IsIn y xs → f y ≤ g y) → IsIn x xs → 1 ≤ g x → sum_over g xs ≤ 1
    → sum_over f xs ≡ f x
only_one f g x [] less h one most = absurd h
only_one f g x (y ∷ xs) less (inl e) one most =
    let s = ap f e in let t = ap g e in let l = sum_over-less f g xs (λ z i. less z (inr i)) in omega arith
only_one f g x (y ∷ xs) less (inr h) one most =
    let s = sum_over-share g x xs h in
    let l = less y (inl refl) in let r = only_one f g x xs (λ z i. less z (inr i)) h one (omega arith) in omega arith

-- two items with a share of a sum of 1 are the same
pub same_share : {X : Type 0} (f : X → ℕ) (x y : X) (xs : List X) → sum_over f xs ≤ 1 → IsIn x xs → IsIn y xs → 1 ≤ f x → 1 ≤ f y → x ≡ y
same_share f x y [] most h i a b = absurd h
same_share f x y (z ∷ xs) most (inl e) (inl k) a b = sym e ∙ k
same_share f x y (z ∷ xs) most (inl e) (inr i) a b =
    let s = ap f e in let t = sum_over-share f y xs i in absurd (omega arith)
same_share f x y (z ∷ xs) most (inr h) (inl k) a b =
    let s = ap f k in let t = sum_over-share f x xs h in absurd (omega arith)
same_share f x y (z ∷ xs) most (inr h) (inr i) a b = same_share f x y xs (omega arith) h i a b

pub occurrences-flat_map : {X : Type 0} (f : X → List ℕ) (n : ℕ) (xs : List X)
    → occurrences n (flat_map f xs) ≡ sum_over (λ x. occurrences n (f x)) xs
occurrences-flat_map f n [] = refl
occurrences-flat_map f n (x ∷ xs) =
    let a = occurrences-append n (f x) (flat_map f xs) in let r = occurrences-flat_map f n xs in omega arith

pub occurrences-map : {X : Type 0} (f : X → ℕ) (n : ℕ) (xs : List X)
    → occurrences n (map f xs) ≡ sum_over (λ x. occurrences n (f x ∷ [])) xs
occurrences-map f n [] = refl
occurrences-map f n (x ∷ xs) = let r = occurrences-map f n xs in omega arith

-- functions that agree on the items of a list
pub map-on : {X Y : Type 0} (f g : X → Y) (xs : List X) → ((x : X) → IsIn x xs → f x ≡ g x) → map f xs ≡ map g xs
map-on f g [] same = refl
map-on f g (x ∷ xs) same = let s = same x (inl refl) in let r = map-on f g xs (λ y i. same y (inr i)) in cc
