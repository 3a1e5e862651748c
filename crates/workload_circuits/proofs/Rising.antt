-- Lists by the numbers below one, and rising numbers.
use Rattle.std.proofs.Common.{◌≡◌, ℕ, zero, suc, ◌+◌, ◌-◌, ◌≤◌, ◌<◌, inl, inr, List, [], ◌∷◌, ◌++◌, map, All, sym, ◌∙◌, ap, subst, arith}
use Rattle.std.proofs.lemmas.List.{append_assoc, append-nil, map_push}
use Rattle.std.proofs.lemmas.List.Elements.{All-nil, All-push}
use Rattle.pulse_ids.specs.Lists.{IsIn, occurrences, upto}
use Rattle.pulse_ids.proofs.CallerLemmas.{IsIn-behind, IsIn-place, IsIn-map, IsIn-from_map}
use Rattle.pulse_ids.proofs.CallerLemmasOnCounts.{once_more, slice_get-upto}

pub upto-IsIn : (count i : ℕ) → i < count → IsIn i (upto count)
upto-IsIn count i lt = IsIn-place i (upto count) i (slice_get-upto count i lt)

pub IsIn-upto : (count i : ℕ) → IsIn i (upto count) → i < count
IsIn-upto zero i h = absurd h
IsIn-upto (suc count) i h = elim (IsIn-behind i count (upto count) h) [
  | inl j ↦ let lt = IsIn-upto count i j in omega arith
  | inr e ↦ omega (arith, e)
]

-- what is true at each number is true of each item
pub all_upto : {X : Type 0} (P : X → Type 0) (f : ℕ → X) (count : ℕ) → ((i : ℕ) → i < count → P (f i)) → All P (map f (upto count))
all_upto P f zero each = All-nil P
all_upto P f (suc count) each =
    subst (All P) (sym (map_push f (upto count) count))
    (All-push P (map f (upto count)) (f count) (all_upto P f count (λ i lt. each i (omega arith))) (each count (omega arith)))

-- so many numbers from one on
abbrev pub rising : ℕ → ℕ → List ℕ
rising first count = map (λ i. first + i) (upto count)

pub rising_more : (first count : ℕ) → rising first (count + 1) ≡ rising first count ++ (first + count) ∷ []
rising_more first count =
    (let next : count + 1 ≡ suc count = omega arith in ap (rising first) next) ∙ map_push (λ i. first + i) (upto count) count

-- the numbers behind follow
pub rising-append : (first count more : ℕ) → rising first count ++ rising (first + count) more ≡ rising first (count + more)
rising-append first count zero =
    append-nil (rising first count) ∙ (let same : count ≡ count + 0 = omega arith in ap (rising first) same)
rising-append first count (suc more) =
    ap (λ (l : List ℕ). rising first count ++ l) (map_push (λ i. first + count + i) (upto more) more)
    ∙ sym (append_assoc (rising first count) (rising (first + count) more) ((first + count + more) ∷ []))
    ∙ ap (λ (l : List ℕ). l ++ (first + count + more) ∷ []) (rising-append first count more)
    ∙ (let same : first + count + more ≡ first + (count + more) = omega arith in ap (λ (n : ℕ). rising first (count + more) ++ n ∷ []) same)
    ∙ sym (rising_more first (count + more)) ∙ (let sum : count + more + 1 ≡ count + suc more = omega arith in ap (rising first) sum)

pub rising-IsIn : (first count n : ℕ) → first ≤ n → n < first + count → IsIn n (rising first count)
rising-IsIn first count n le lt =
    (let same : first + (n - first) ≡ n = omega arith in
    subst (λ (m : ℕ). IsIn m (rising first count)) same (IsIn-map (λ i. first + i) (n - first) (upto count) (upto-IsIn count (n - first) (omega arith))))

rising_behind : (first count : ℕ) → IsIn (first + count) (rising first count) → ⊥
rising_behind first count h =
    let r = IsIn-from_map (λ i. first + i) (first + count) (upto count) h in
    let lt = IsIn-upto count r.0 r.1 in
    omega (arith, r.2)

-- none stands twice
pub rising_once : (first count n : ℕ) → occurrences n (rising first count) ≤ 1
rising_once first zero n = omega arith
rising_once first (suc count) n =
    subst (λ (l : List ℕ). occurrences n l ≤ 1) (sym (map_push (λ i. first + i) (upto count) count))
    (once_more n (first + count) (rising first count) (rising_once first count n) (rising_behind first count))
