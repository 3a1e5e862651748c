-- Bits that are set in turn.
use Rattle.std.proofs.Common.{◌≡◌, ◌≢◌, ℕ, zero, suc, ◌+◌, ◌<◌, ◌⊎◌, inl, inr, List, [], ◌∷◌, ◌++◌, length, take, get_or, set, replicate, Bool, true, false, refl, sym, ◌∙◌, ap, subst, arith, Contains, if◌then◌else◌}
use Rattle.std.proofs.lemmas.List.{take_more, get_or-set_same, get_or-set_other, length-set}
use Rattle.dependency_order.specs.Searches.{MarksAll, clear_in}
use Rattle.std.proofs.lemmas.List.Elements.{Contains-append_left, Contains-push, Contains-push_cases}
use Rattle.dependency_order.proofs.Members.{same_or_not}

-- 1 for a bit that is 1
abbrev pub number_of : Bool → ℕ
number_of b = if b then 1 else 0

pub bit_number : (b test : Bool) → b ≡ test → number_of b ≡ number_of test
bit_number b test e = ap number_of e

MarksAll-behind : (before : List Bool) (numbers : List ℕ) (number : ℕ) (bits : List Bool) → number < length bits → MarksAll before numbers bits → MarksAll before
    (numbers ++ number ∷ []) (set bits number true)
MarksAll-behind before numbers number bits lt h = record {
  width = length-set bits number true ∙ h.width;
  marked = λ other i. marked other (same_or_not other number) i;
  kept = λ other out. get_or-set_other bits number other true false (λ e. out (subst (λ n. Contains (numbers ++ number ∷ []) n) (sym e) (Contains-push numbers number)))
      ∙ h.kept other (λ i. out (Contains-append_left numbers (number ∷ []) other i));
}
  where
    marked : (other : ℕ) → (other ≡ number) ⊎ (other ≢ number) → Contains (numbers ++ number ∷ []) other → get_or (set bits number true) other false ≡ true
    marked other (inl e) i = rw e (get_or-set_same bits number true false lt)
    marked other (inr ne) i = get_or-set_other bits number other true false ne ∙
        (elim (Contains-push_cases numbers number other i) [ inl j ↦ h.marked other j | inr e ↦ absurd (ne (sym e)) ])

pub MarksAll-more : (before : List Bool) (numbers : List ℕ) (i : ℕ) (bits : List Bool) → i < length numbers → get_or numbers i 0 < length bits → MarksAll before
    (take i numbers) bits → MarksAll before (take (i + 1) numbers) (set bits (get_or numbers i 0) true)
MarksAll-more before numbers i bits lt fits h =
    rw (take_more numbers i 0 lt) (MarksAll-behind before (take i numbers) (get_or numbers i 0) bits fits h)

-- a bit that is 1 stays so
pub still_set : (bits : List Bool) (place other : ℕ) → place < length bits → get_or bits other false ≡ true → get_or (set bits place true) other false ≡ true
still_set bits place other lt h = elim (same_or_not other place) [
  | inl e ↦ rw e (get_or-set_same bits place true false lt)
  | inr ne ↦ get_or-set_other bits place other true false ne ∙ h
]

-- a bit that is 1 now is the new one, or was 1
pub set_before : (bits : List Bool) (place other : ℕ) → get_or (set bits place true) other false ≡ true → (other ≡ place) ⊎ (get_or bits other false ≡ true)
set_before bits place other h = elim (same_or_not other place) [
  | inl e ↦ inl e
  | inr ne ↦ inr (sym (get_or-set_other bits place other true false ne) ∙ h)
]

-- a bit that was 0 is 0 fewer
pub one_set_more : (bits : List Bool) (place : ℕ) → place < length bits → get_or bits place false ≡ false → clear_in (set bits place true) + 1 ≡ clear_in bits
one_set_more [] place lt e = absurd (omega arith)
one_set_more (true ∷ bits) zero lt e = cc
one_set_more (false ∷ bits) zero lt e = omega arith
one_set_more (bit ∷ bits) (suc place) lt e = let r = one_set_more bits place (omega arith) e in omega arith

pub all_clear : (count : ℕ) → clear_in (replicate count false) ≡ count
all_clear zero = refl
all_clear (suc count) = let r = all_clear count in omega arith

pub none_set : (count place : ℕ) → get_or (replicate count false) place false ≡ false
none_set zero place = refl
none_set (suc count) zero = refl
none_set (suc count) (suc place) = none_set count place

pub all_zero : (count place : ℕ) → get_or {A = ℕ} (replicate count 0) place 0 ≡ 0
all_zero zero place = refl
all_zero (suc count) zero = refl
all_zero (suc count) (suc place) = all_zero count place
