-- Turns of pulses, counted.
use Rattle.std.proofs.Common.{◌≡◌, ◌≢◌, ◌+◌, ◌-◌, ◌^◌, ◌<◌, ◌≤◌, ◌⊎◌, ◌==◌, if◌then◌else◌, ℕ, zero, suc, Some, inl, inr}
use Rattle.std.proofs.Common.{List, [], ◌∷◌, ◌++◌, length, map, drop, slice_get, IsPermutation, refl, ap, subst, arith}
use Rattle.std.specs.List.{swap_remove, sum_by}
use Rattle.std.proofs.lemmas.Option.{slice_get_within, get_or_from_slice_get}
use Rattle.std.proofs.lemmas.List.{length-map}
use Rattle.std.proofs.lemmas.List.Sums.{sum_by-cons, sum_by-swap_remove}
use Rattle.std.proofs.lemmas.Bool.{cases_eq}
use Rattle.std.proofs.lemmas.List.Sorted.{sum_by-IsPermutation}
use Rattle.cell_netlist.proofs.CallerLemmasOnLists.{drop-at}
use Rattle.pulse_ids.specs.Lists.{IsIn, occurrences}
use Rattle.pulse_ids.proofs.CallerLemmas.{IsIn-from_map}
use Rattle.pulse_ids.proofs.CallerLemmasOnCounts.{one_if, occurrences-append, occurrences-IsIn}
use Rattle.timed_world.specs.Phases.{turns_of, HasMore}
use Rattle.timed_world.specs.Times.{turn}

-- a turn tells its time and its wire
pub turn_parts : (time other wire also : ℕ) → wire < 2 ^ 22 → also < 2 ^ 22 → turn time wire ≡ turn other also → (time ≡ other) × (wire ≡ also)
turn_parts time other wire also low less e = (omega (arith, e, low, less), omega (arith, e, low, less))

-- the lower turn has the lower time, or the same and the lower wire
pub turn_first : (time other wire also : ℕ) → wire < 2 ^ 22 → also < 2 ^ 22 → turn time wire ≤ turn other also
    → (time < other) ⊎ ((time ≡ other) × (wire ≤ also))
turn_first time other wire also low less e = go (cases_eq time other)
  where
    go : (time ≡ other) ⊎ (time ≢ other) → (time < other) ⊎ ((time ≡ other) × (wire ≤ also))
    go (inl s) = inr (s, omega (arith, e, s))
    go (inr ne) = inl (less_time (λ s. ne s))
      where
        less_time : (time ≡ other → ⊥) → time < other
        less_time apart = omega (arith, e, low, less, apart)

occurrences-sum : {X : Type 0} (f : X → ℕ) (n : ℕ) (xs : List X) → occurrences n (map f xs) ≡ sum_by (λ x. if n == f x then 1 else 0) xs
occurrences-sum f n [] = refl
occurrences-sum f n (x ∷ xs) = let r = occurrences-sum f n xs in let s = sum_by-cons (λ y. if n == f y then 1 else 0) x xs in omega arith

-- another order has each value as often
pub mapped-permutation : {X : Type 0} (f : X → ℕ) (xs ys : List X) → IsPermutation xs ys → (n : ℕ) → occurrences n (map f ys) ≡ occurrences n (map f xs)
mapped-permutation f xs ys h n =
    let a = occurrences-sum f n xs in
    let b = occurrences-sum f n ys in
    let s = sum_by-IsPermutation (λ x. if n == f x then 1 else 0) xs ys h in omega arith

-- how often a value stands where the item of a place was taken
pub mapped-removed : (f : ℕ → ℕ) (xs : List ℕ) (place wire d : ℕ) → slice_get xs place ≡ Some wire → (n : ℕ)
    → occurrences n (map f (swap_remove xs place d)) + (if n == f wire then 1 else 0) ≡ occurrences n (map f xs)
mapped-removed f xs place wire d e n =
    let inside = slice_get_within xs place wire e in
    let is = get_or_from_slice_get xs place wire d e in
    let sums = sum_by-swap_remove (λ x. if n == f x then 1 else 0) xs place d inside in
    rest-of _ _ _ _ (if n == f wire then 1 else 0) (occurrences-sum f n (swap_remove xs place d)) (occurrences-sum f n xs)
    (subst (λ x. sum_by (λ y. if n == f y then 1 else 0) (swap_remove xs place d) + (if n == f x then 1 else 0) ≡ sum_by (λ y. if n == f y then 1 else 0) xs) is sums)
  where
    rest-of : (a b c d f : ℕ) → a ≡ b → c ≡ d → b + f ≡ d → a + f ≡ c
    rest-of a b c d f e g h = omega arith

-- the same of the items themselves
pub occurrences-removed : (xs : List ℕ) (place wire d : ℕ) → slice_get xs place ≡ Some wire → (n : ℕ)
    → occurrences n (swap_remove xs place d) + (if n == wire then 1 else 0) ≡ occurrences n xs
occurrences-removed xs place wire d e n =
    let h = mapped-removed (λ x. x) xs place wire d e n in
    let a = ap (occurrences n) (map-same (swap_remove xs place d)) in
    let b = ap (occurrences n) (map-same xs) in omega arith
  where
    map-same : (ys : List ℕ) → map (λ x. x) ys ≡ ys
    map-same [] = refl
    map-same (y ∷ ys) = ap (λ l. y ∷ l) (map-same ys)

map-append : (f : ℕ → ℕ) (xs ys : List ℕ) → map f (xs ++ ys) ≡ map f xs ++ map f ys
map-append f [] ys = refl
map-append f (x ∷ xs) ys = ap (λ l. f x ∷ l) (map-append f xs ys)

pub occurrences-turns : (due : ℕ → ℕ) (xs ys : List ℕ) (n : ℕ) → occurrences n (turns_of due (xs ++ ys)) ≡ occurrences n (turns_of due xs) + occurrences n (turns_of due ys)
occurrences-turns due xs ys n =
    let e = ap (occurrences n) (map-append (λ wire. turn (due wire) wire) xs ys) in
    let s = occurrences-append n (turns_of due xs) (turns_of due ys) in omega arith

-- the last items of a list
pub drop-front : (xs ys : List ℕ) (n : ℕ) → length xs ≡ n → drop n (xs ++ ys) ≡ ys
drop-front [] ys zero e = refl
drop-front [] ys (suc n) e = absurd (omega arith)
drop-front (x ∷ xs) ys zero e = absurd (omega arith)
drop-front (x ∷ xs) ys (suc n) e = drop-front xs ys n (omega arith)

pub turn-in : (due : ℕ → ℕ) (wires : List ℕ) (n : ℕ) → 1 ≤ occurrences n (turns_of due wires) → (wire : ℕ) × IsIn wire wires × (turn (due wire) wire ≡ n)
turn-in due wires n some = IsIn-from_map (λ wire. turn (due wire) wire) n wires (occurrences-IsIn n (turns_of due wires) some)

-- The turns of the wires of a queue from the first place up to this one were added.
pub record InsertedTo (due : ℕ → ℕ) (queue : List ℕ) (first place : ℕ) (before turns : List ℕ) : Type 0 where
  pub counts : (n : ℕ) → occurrences n turns + occurrences n (turns_of due (drop place queue)) ≡ occurrences n before + occurrences n (turns_of due (drop first queue))
  pub count : length turns + length (drop place queue) ≡ length before + length (drop first queue)

pub inserted-none : (due : ℕ → ℕ) (queue : List ℕ) (first : ℕ) (before : List ℕ) → InsertedTo due queue first first before before
inserted-none due queue first before = record { counts = λ n. refl; count = refl }

pub inserted-more : (due : ℕ → ℕ) (queue : List ℕ) (first place : ℕ) (before turns after : List ℕ) (wire time : ℕ) → InsertedTo due queue first place before turns
    → slice_get queue place ≡ Some wire → time ≡ due wire
    → ((n : ℕ) → occurrences n after ≡ occurrences n turns + (if n == turn time wire then 1 else 0)) → length after ≡ length turns + 1
    → InsertedTo due queue first (place + 1) before after
inserted-more due queue first place before turns after wire time r at is more longer = record {
  counts = λ n.
      let c = r.counts n in
      let m = more n in
      let test : one_if (n == turn time wire) ≡ one_if (n == turn (due wire) wire) = ap (λ t. one_if (n == turn t wire)) is in
      let whole : occurrences n (turns_of due (drop place queue)) ≡ one_if (n == turn (due wire) wire) + occurrences n (turns_of due (drop (place + 1) queue))
      = ap (λ ws. occurrences n (turns_of due ws)) (drop-at queue place wire at) in omega arith;
  count =
      let c = r.count in
      let whole : length (drop place queue) ≡ suc (length (drop (place + 1) queue)) = ap length (drop-at queue place wire at) in omega arith;
}

pub inserted-all : (due : ℕ → ℕ) (queue : List ℕ) (first place : ℕ) (before turns : List ℕ) → InsertedTo due queue first place before turns → length queue ≤ place
    → HasMore before (turns_of due (drop first queue)) turns
inserted-all due queue first place before turns r past =
    let none : drop place queue ≡ [] = drop-past queue place past in (
      λ n. let c = r.counts n in let z = ap (λ ws. occurrences n (turns_of due ws)) none in omega arith,
      let c = r.count in let z = ap length none in let l = length-map (drop first queue) (λ wire. turn (due wire) wire) in omega arith,
    )
  where
    drop-past : (xs : List ℕ) (n : ℕ) → length xs ≤ n → drop n xs ≡ []
    drop-past [] zero le = refl
    drop-past [] (suc n) le = refl
    drop-past (x ∷ xs) zero le = absurd (omega arith)
    drop-past (x ∷ xs) (suc n) le = drop-past xs n (omega arith)

pub dropped : (xs : List ℕ) (n : ℕ) → length (drop n xs) ≡ length xs - n
dropped [] zero = refl
dropped [] (suc n) = omega arith
dropped (x ∷ xs) zero = omega arith
dropped (x ∷ xs) (suc n) = let r = dropped xs n in omega arith
