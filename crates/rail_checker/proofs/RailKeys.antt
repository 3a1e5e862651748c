-- Keys of rails, sorted.
use Rattle.std.proofs.Common.{◌≡◌, ℕ, zero, suc, ◌+◌, ◌*◌, ◌-◌, ◌/◌, ◌%◌, ◌<◌, ◌≤◌, ◌⊎◌, inl, inr, List, [], ◌∷◌, ◌++◌, length, drop, get_or, min, ◌==◌, eqb, if◌then◌else◌, Option, Some, None}
use Rattle.std.proofs.Common.{slice_get, refl, sym, ap, subst, ◌∙◌, arith, eq-eqb, ne_eqb}
use Rattle.std.specs.Prelude.{slice_index}
use Rattle.std.specs.List.{IsDistinct}
use Rattle.std.specs.List.Sorted.{IsPermutation, IsNonDecreasing}
use Rattle.std.proofs.lemmas.Bool.{cases_eq, cases_lt, cases_Bool, eqb-true, eqb-false}
use Rattle.std.proofs.lemmas.List.Sorted.{Contains-permutation, IsPermutation-sym}
use Rattle.std.proofs.lemmas.Map.Keys.{IsDistinct-IsPermutation, IsDistinct-from_apart, IsStrictlyIncreasing-from_distinct}
use Rattle.std.proofs.lemmas.Nat.{div-mul-add}
use Rattle.pulse_ids.specs.Lists.{IsIn}
use Rattle.pulse_ids.proofs.CallerLemmas.{IsIn-at, index_of, IsIn-contained, contained-IsIn}
use Rattle.pulse_ids.specs.declared.literals.Sign.{Sign}
use Rattle.pulse_ids.specs.declared.literals.Sign.TheVariants.{Pos, Neg}
use Rattle.cell_netlist.specs.declared.lines.Rail.{Rail}
use Rattle.cell_netlist.specs.Netlists.{most_lines}
use Rattle.rail_checker.specs.Rails.{IsTwice, sign_number, rail_number, key_of, keys_from, IsRepeated, lower_of}
use Rattle.rail_checker.specs.Verdicts.{IsFirst}

-- one rail's key more
pub keys_next : (rails : List Rail) (i : ℕ) (rail : Rail) (done : List ℕ) (key : ℕ) → slice_get rails i ≡ Some rail → key ≡ key_of rail i
    → (done ++ key ∷ []) ++ keys_from (i + 1) (drop (i + 1) rails) ≡ done ++ keys_from i (drop i rails)
keys_next rails i rail done key at e = joined done ∙ ap (λ l. done ++ l) (rw e (behind rails i at))
  where
    joined : (xs : List ℕ) → (xs ++ key ∷ []) ++ keys_from (i + 1) (drop (i + 1) rails) ≡ xs ++ (key ∷ keys_from (i + 1) (drop (i + 1) rails))
    joined [] = refl
    joined (x ∷ xs) = ap (λ l. x ∷ l) (joined xs)

    behind : (rails : List Rail) (k : ℕ) → slice_get rails k ≡ Some rail → key_of rail i ∷ keys_from (i + 1) (drop (k + 1) rails) ≡ keys_from i (drop k rails)
    behind [] k at = absurd cc
    behind (r ∷ rails) zero at = let same : r ≡ rail = cc in rw same refl
    behind (r ∷ rails) (suc k) at =
        let next : suc k + 1 ≡ suc (k + 1) = omega arith in
        subst (λ m. key_of rail i ∷ keys_from (i + 1) (drop m (r ∷ rails)) ≡ keys_from i (drop k rails)) (sym next) (behind rails k at)

pub append_nil : (xs : List ℕ) → xs ++ [] ≡ xs
append_nil [] = refl
append_nil (x ∷ xs) = ap (λ l. x ∷ l) (append_nil xs)

length_keys : (n : ℕ) (rails : List Rail) → length (keys_from n rails) ≡ length rails
length_keys n [] = refl
length_keys n (rail ∷ rails) = ap suc (length_keys (n + 1) rails)

-- the key at a place
key_at : (n : ℕ) (rails : List Rail) (i d : ℕ) → i < length rails → (rail : Rail) × (slice_get rails i ≡ Some rail) × (get_or (keys_from n rails) i d ≡ key_of rail (n + i))
key_at n [] i d lt = absurd (omega arith)
key_at n (rail ∷ rails) zero d lt = (rail, refl, omega arith)
key_at n (rail ∷ rails) (suc i) d lt = let r = key_at (n + 1) rails i d (omega arith) in (r.0, r.1, r.2 ∙ omega arith)

-- the same where the first number is 0
key_here : (rails : List Rail) (i d : ℕ) → i < length rails → (rail : Rail) × (slice_get rails i ≡ Some rail) × (get_or (keys_from 0 rails) i d ≡ key_of rail i)
key_here rails i d lt =
    let r = key_at 0 rails i d lt in let from_none : 0 + i ≡ i = omega arith in (r.0, r.1, r.2 ∙ ap (λ k. key_of r.0 k) from_none)

within : (rails : List Rail) (i : ℕ) (rail : Rail) → slice_get rails i ≡ Some rail → i < length rails
within [] i rail e = absurd cc
within (r ∷ rails) zero rail e = omega arith
within (r ∷ rails) (suc i) rail e = let t = within rails i rail e in omega arith

-- the parts of a key
high_of : (rail : Rail) (number : ℕ) → number < most_lines → key_of rail number / most_lines ≡ rail_number rail
high_of rail number lt = div-mul-add (rail_number rail) most_lines number lt

low_of : (rail : Rail) (number : ℕ) → number < most_lines → key_of rail number % most_lines ≡ number
low_of rail number lt = omega arith

between : (high x : ℕ) → high * most_lines ≤ x → x < high * most_lines + most_lines → x / most_lines ≡ high
between high x le lt =
    let split : x ≡ high * most_lines + (x - high * most_lines) = omega arith in
    ap (λ y. y / most_lines) split ∙ div-mul-add high most_lines (x - high * most_lines) (omega arith)

same_rail : (p q : ℕ) (s t : Sign) → 2 * p + sign_number s ≡ 2 * q + sign_number t → (p ≡ q) × (s ≡ t)
same_rail p q Pos Pos e = (omega arith, refl)
same_rail p q Neg Neg e = (omega arith, refl)
same_rail p q Pos Neg e = absurd (omega arith)
same_rail p q Neg Pos e = absurd (omega arith)

number_same : (one other : Rail) → one.port ≡ other.port → one.sign ≡ other.sign → rail_number one ≡ rail_number other
number_same one other p s = ap (λ x. 2 * x + sign_number one.sign) p ∙ ap (λ x. 2 * other.port + sign_number x) s

flips : (x y : ℕ) → eqb x y ≡ eqb y x
flips x y = elim (cases_eq x y) [ inl e ↦ eq-eqb x y e ∙ sym (eq-eqb y x (sym e)) | inr ne ↦ ne_eqb x y ne ∙ sym (ne_eqb y x (λ e. ne (sym e))) ]

module _ (rails : List Rail) (few : length rails ≤ most_lines) (keys : List ℕ) (moved : IsPermutation (keys_from 0 rails) keys) (rising : IsNonDecreasing keys) where
  distinct : IsDistinct eqb (keys_from 0 rails)
  distinct = IsDistinct-from_apart eqb (keys_from 0 rails) (λ i j d lt below. ne_eqb _ _ (λ e. apart i j d lt (omega (arith, below, length_keys 0 rails)) e))
    where
      apart : (i j d : ℕ) → i < j → j < length rails → get_or (keys_from 0 rails) i d ≡ get_or (keys_from 0 rails) j d → ⊥
      apart i j d lt below e =
          let one = key_here rails i d (omega arith) in
          let other = key_here rails j d below in
          let a : key_of one.0 i % most_lines ≡ i = low_of one.0 i (omega (arith, few)) in
          let b : key_of other.0 j % most_lines ≡ j = low_of other.0 j (omega (arith, few)) in
          let same : key_of one.0 i ≡ key_of other.0 j = sym one.2 ∙ e ∙ other.2 in
          let i_is : i ≡ j = sym a ∙ ap (λ k. k % most_lines) same ∙ b in
          omega arith

  strict : (k : ℕ) → k + 1 < length keys → slice_index keys k < slice_index keys (k + 1)
  strict = IsStrictlyIncreasing-from_distinct keys rising (IsDistinct-IsPermutation eqb flips (keys_from 0 rails) keys moved distinct)

  -- a key is that of a rail
  rail_of : (place : ℕ) → place < length keys → (i : ℕ) × (rail : Rail) × (i < length rails) × (slice_get rails i ≡ Some rail) × (slice_index keys place ≡ key_of rail i)
  rail_of place lt =
      let base = Contains-permutation keys (keys_from 0 rails) (slice_index keys place) (IsPermutation-sym (keys_from 0 rails) keys moved)
      (contained-IsIn keys (slice_index keys place) (IsIn-at keys place 0 lt)) in
      let at = index_of (slice_index keys place) (keys_from 0 rails) 0 (IsIn-contained (keys_from 0 rails) (slice_index keys place) base) in
      let low : at.0 < length rails = omega (arith, at.1, length_keys 0 rails) in
      let r = key_here rails at.0 0 low in (at.0, r.0, low, r.1, sym at.2 ∙ r.2)

  -- a rail's key has a place
  place_of_rail : (i : ℕ) (rail : Rail) → slice_get rails i ≡ Some rail → (place : ℕ) × (place < length keys) × (slice_index keys place ≡ key_of rail i)
  place_of_rail i rail at =
      let low = within rails i rail at in
      let r = key_here rails i 0 low in
      let its : r.0 ≡ rail = cc in
      let in_base : IsIn (key_of rail i) (keys_from 0 rails) =
      subst (λ k. IsIn k (keys_from 0 rails)) (r.2 ∙ ap (λ x. key_of x i) its) (IsIn-at (keys_from 0 rails) i 0 (omega (arith, low, length_keys 0 rails))) in
      let p = index_of (key_of rail i) keys 0 (IsIn-contained keys (key_of rail i)
      (Contains-permutation (keys_from 0 rails) keys (key_of rail i) moved (contained-IsIn (keys_from 0 rails) (key_of rail i) in_base))) in
      (p.0, p.1, p.2)

  pub repeated_twice : (n : ℕ) → IsRepeated keys (length keys) n → IsTwice rails n
  repeated_twice n h =
      let one = rail_of h.0 (omega (arith, h.1)) in
      let other = rail_of (h.0 + 1) h.1 in
      let one_high : slice_index keys h.0 / most_lines ≡ rail_number one.1 = ap (λ k. k / most_lines) one.4 ∙ high_of one.1 one.0 (omega (arith, one.2, few)) in
      let other_high : slice_index keys (h.0 + 1) / most_lines ≡ rail_number other.1 = ap (λ k. k / most_lines) other.4 ∙ high_of other.1 other.0 (omega (arith, other.2, few)) in
      let same : rail_number one.1 ≡ rail_number other.1 = sym one_high ∙ h.2 ∙ other_high in
      let number : other.0 ≡ n = sym (low_of other.1 other.0 (omega (arith, other.2, few))) ∙ ap (λ k. k % most_lines) (sym other.4) ∙ h.3 in
      let lower : one.0 < other.0 = omega (arith, strict h.0 h.1, one.4, other.4, same) in
      let parts = same_rail one.1.port other.1.port one.1.sign other.1.sign same in
      (one.0, one.1, other.1, omega (arith, lower, number), one.3, subst (λ k. slice_get rails k ≡ Some other.1) number other.3, parts.0, parts.1)

  pub twice_repeated : (n : ℕ) → IsTwice rails n → IsRepeated keys (length keys) n
  twice_repeated n t =
      let one = place_of_rail t.0 t.1 t.4 in
      let other = place_of_rail n t.2 t.5 in
      let low : n < most_lines = omega (arith, few, within rails n t.2 t.5) in
      let same : rail_number t.1 ≡ rail_number t.2 = number_same t.1 t.2 t.6 t.7 in
      let less : key_of t.1 t.0 < key_of t.2 n = omega (arith, same, t.3) in
      go one.0 one.1 one.2 other.0 other.1 other.2 low same less (cases_lt one.0 other.0)
    where
      go : (i : ℕ) → i < length keys → slice_index keys i ≡ key_of t.1 t.0 → (j : ℕ) → j < length keys → slice_index keys j ≡ key_of t.2 n → n < most_lines
          → rail_number t.1 ≡ rail_number t.2 → key_of t.1 t.0 < key_of t.2 n → (i < j) ⊎ (j ≤ i) → IsRepeated keys (length keys) n
      go i i_lt i_is j j_lt j_is low same less (inr late) = let falls = rising j i 0 late i_lt in absurd (omega (arith, falls, i_is, j_is, less))
      go i i_lt i_is zero j_lt j_is low same less (inl lt) = absurd (omega arith)
      go i i_lt i_is (suc j) j_lt j_is low same less (inl lt) =
          let next : suc j ≡ j + 1 = omega arith in
          let up = rising i j 0 (omega arith) (omega arith) in
          let on = rising j (suc j) 0 (omega arith) j_lt in
          let high : slice_index keys j / most_lines ≡ rail_number t.2 = between (rail_number t.2) (slice_index keys j) (omega (arith, up, i_is, same)) (omega (arith, on, j_is, low)) in
          let its : slice_index keys (j + 1) ≡ key_of t.2 n = ap (λ k. slice_index keys k) (sym next) ∙ j_is in (
            j,
            omega (arith, j_lt),
            high ∙ sym (ap (λ k. k / most_lines) its ∙ high_of t.2 n low),
            ap (λ k. k % most_lines) its ∙ low_of t.2 n low,
          )

-- one key more is looked at
pub repeated_more : (keys : List ℕ) (found : Option ℕ) (place : ℕ) → 1 ≤ place → IsFirst (IsRepeated keys place) found → (result : Option ℕ)
    → result ≡ (if slice_index keys (place - 1) / most_lines == slice_index keys place / most_lines then Some (lower_of found (slice_index keys place % most_lines)) else found)
    → IsFirst (IsRepeated keys (place + 1)) result
repeated_more keys found place le first result e = elim (cases_Bool (slice_index keys (place - 1) / most_lines == slice_index keys place / most_lines)) [
  | inl hit ↦
      let same : slice_index keys (place - 1) / most_lines ≡ slice_index keys place / most_lines = eqb-true _ _ hit in
      subst (λ f. IsFirst (IsRepeated keys (place + 1)) f) (sym (rw hit at e)) (with_hit same found first)
  | inr miss ↦
      let apart : slice_index keys (place - 1) / most_lines ≡ slice_index keys place / most_lines → ⊥ = eqb-false _ _ miss in
      subst (λ f. IsFirst (IsRepeated keys (place + 1)) f) (sym (rw miss at e)) (without apart found first)
]
  where
    back : place - 1 + 1 ≡ place
    back = omega arith

    earlier : (n : ℕ) → IsRepeated keys place n → IsRepeated keys (place + 1) n
    earlier n h = (h.0, omega (arith, h.1), h.2, h.3)

    -- a repetition among one key more is one of before or the last
    split : (n : ℕ) → IsRepeated keys (place + 1) n
        → IsRepeated keys place n ⊎ ((slice_index keys (place - 1) / most_lines ≡ slice_index keys place / most_lines) × (slice_index keys place % most_lines ≡ n))
    split n h = elim (cases_lt (h.0 + 1) place) [
      | inl lt ↦ inl (h.0, lt, h.2, h.3)
      | inr ge ↦
          let here : h.0 + 1 ≡ place = omega (arith, h.1) in
          let before : h.0 ≡ place - 1 = omega (arith, here) in
          inr (
            ap (λ k. slice_index keys k / most_lines) (sym before) ∙ h.2 ∙ ap (λ k. slice_index keys k / most_lines) here,
            ap (λ k. slice_index keys k % most_lines) (sym here) ∙ h.3,
          )
    ]

    last : slice_index keys (place - 1) / most_lines ≡ slice_index keys place / most_lines → IsRepeated keys (place + 1) (slice_index keys place % most_lines)
    last same = (place - 1, omega arith, same ∙ ap (λ k. slice_index keys k / most_lines) (sym back), ap (λ k. slice_index keys k % most_lines) back)

    without : (slice_index keys (place - 1) / most_lines ≡ slice_index keys place / most_lines → ⊥) → (found : Option ℕ)
        → IsFirst (IsRepeated keys place) found → IsFirst (IsRepeated keys (place + 1)) found
    without apart None never = λ n h. elim (split n h) [ inl old ↦ never n old | inr new ↦ apart new.0 ]
    without apart (Some f) lowest = (earlier f lowest.0, λ n lt h. elim (split n h) [ inl old ↦ lowest.1 n lt old | inr new ↦ apart new.0 ])

    with_hit : slice_index keys (place - 1) / most_lines ≡ slice_index keys place / most_lines → (found : Option ℕ) → IsFirst (IsRepeated keys place) found
        → IsFirst (IsRepeated keys (place + 1)) (Some (lower_of found (slice_index keys place % most_lines)))
    with_hit same None never = (last same, λ n lt h. elim (split n h) [ inl old ↦ never n old | inr new ↦ omega (arith, new.1, lt) ])
    with_hit same (Some f) lowest = elim (cases_lt f (slice_index keys place % most_lines)) [
      | inl less ↦
          let is : min f (slice_index keys place % most_lines) ≡ f = omega arith in
          subst (λ m. IsFirst (IsRepeated keys (place + 1)) (Some m)) (sym is)
          (earlier f lowest.0, λ n lt h. elim (split n h) [ inl old ↦ lowest.1 n lt old | inr new ↦ omega (arith, new.1, lt, less) ])
      | inr more ↦
          let is : min f (slice_index keys place % most_lines) ≡ slice_index keys place % most_lines = omega arith in
          subst (λ m. IsFirst (IsRepeated keys (place + 1)) (Some m)) (sym is)
          (last same, λ n lt h. elim (split n h) [ inl old ↦ lowest.1 n (omega (arith, lt, more)) old | inr new ↦ omega (arith, new.1, lt) ])
    ]
