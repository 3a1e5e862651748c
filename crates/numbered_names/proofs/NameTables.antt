-- Where the numbers of names stand.
use Rattle.std.proofs.Common.{◌≡◌, ◌≢◌, ℕ, suc, ◌+◌, ◌-◌, ◌<◌, ◌≤◌, ◌⊎◌, inl, inr, Bool, true, false, cond, List, [], ◌∷◌, ◌++◌, Option, Some, None, refl, sym, ap, ◌∙◌, subst, arith}
use Rattle.std.specs.Prelude.{IfSome, IfNone, length, slice_get, get_or}
use Rattle.std.specs.Global.{Vec}
use Rattle.std.specs.Str.{bytes_eq}
use Rattle.std.specs.BTreeMap as tree
use Rattle.std.specs.BTreeMap.{BTreeMap}
use Rattle.std.specs.Ordering.{nat_cmp}
use Rattle.std.specs.Cmp.Lexicographic.{slice_cmp, bytes_decides}
use Rattle.std.proofs.lemmas.Bool.{cases_order}
use Rattle.numbered_names.specs.Names.{AreNumbered, HasNumber, number_from, number_in}
use Rattle.numbered_names.specs.NameTables.{AreTaken, AreKept, IsInWindow, IsInOverflow, IsKept, OthersStay, end_of, overflow_at, start_of}
use Rattle.numbered_names.proofs.Keys.{last_or_before, no_number, noted_number, same_or_not, updates_bytes}

at_by : (b : Bool) (first number : ℕ) (later : Option ℕ) (names : List (List ℕ)) (other name : List ℕ) → (b ≡ true → name ≡ other)
    → (later ≡ Some number → (first + 1 ≤ number) × (slice_get names (number - (first + 1)) ≡ Some name))
    → cond b (Some first) later ≡ Some number → (first ≤ number) × (slice_get (other ∷ names) (number - first) ≡ Some name)
at_by true first number later names other name same rest h =
    let is : first ≡ number = cc in
    let none : number - first ≡ 0 = omega arith in
    (omega arith, ap (slice_get (other ∷ names)) none ∙ ap (λ (n : List ℕ). Some n) (sym (same refl)))
at_by false first number later names other name same rest h =
    let r = rest h in
    let more : number - first ≡ suc (number - (first + 1)) = omega (arith, r.0) in
    (omega (arith, r.0), ap (slice_get (other ∷ names)) more ∙ r.1)

from_at : (first : ℕ) (names : List (List ℕ)) (name : List ℕ) (number : ℕ) → number_from first names name ≡ Some number → (first ≤ number) × (slice_get names (number - first) ≡ Some name)
from_at first [] name number h = absurd cc
from_at first (other ∷ names) name number h =
    at_by (bytes_eq name other) first number (number_from (first + 1) names name) names other name (bytes_decides name other).0 (from_at (first + 1) names name number) h

-- a name without a number is none of the names
no_name : (names : List (List ℕ)) (name : List ℕ) → ((number : ℕ) → HasNumber names number name → ⊥) → number_in names name ≡ None
no_name names name h = no_number (number_in names name) (λ number e. h number (from_at 1 names name number e))

pub named : (names : List (List ℕ)) (name : List ℕ) (number : ℕ) → AreNumbered names → HasNumber names number name → number_in names name ≡ Some number
named names name number numbered has = noted_number names name number numbered has.0 has.1

-- what a look into the slots before one says of a name
abbrev pub IsNotBefore : List (List ℕ) → List ℕ → ℕ → ℕ → List ℕ → Type 0
IsNotBefore names slots start end name = (at : ℕ) → start ≤ at → at < end → HasNumber names (get_or slots at 0) name → ⊥

module _ (names : List (List ℕ)) (slots : List ℕ) (overflow : BTreeMap (Vec ℕ) ℕ) (name : List ℕ) (start end : ℕ) where
  in_window : (number : ℕ) → HasNumber names number name → IsNotBefore names slots start end name → (w : IsInWindow slots start number) → w.at < end → ⊥
  in_window number has before w less = before w.at w.least less (subst (λ (n : ℕ). HasNumber names n name) (sym w.is) has)

  free_before : (number : ℕ) → HasNumber names number name → start ≤ end → get_or slots end 0 ≡ 0 → IsNotBefore names slots start end name → IsInWindow slots start number → ⊥
  free_before number has rise free before w = elim (cases_order w.at end) [
    | inl same ↦ let is : number ≡ 0 = sym w.is ∙ ap (λ (at : ℕ). get_or slots at 0) same ∙ free in omega (arith, has.0)
    | inr (inl less) ↦ in_window number has before w less
    | inr (inr more) ↦ let taken = w.taken end rise more in omega arith
  ]

  module _ (begins : start ≡ start_of (length slots) name) (kept : AreKept names slots overflow) where
    kept_here : (number : ℕ) → HasNumber names number name → IsInWindow slots start number ⊎ IsInOverflow slots overflow start number name
    kept_here number has = subst (λ (s : ℕ). IsInWindow slots s number ⊎ IsInOverflow slots overflow s number name) (sym begins) (kept number name has)

    -- no name's number stands behind a free slot
    pub none_free : start ≤ end → end < end_of (length slots) start → get_or slots end 0 ≡ 0 → IsNotBefore names slots start end name → number_in names name ≡ None
    none_free rise within free before = no_name names name (λ number has. elim (kept_here number has) [
      | inl w ↦ free_before number has rise free before w
      | inr o ↦ let taken = o.full end rise within in omega arith
    ])

    -- nor where neither a full window nor the overflow has it
    pub none_full : end ≡ end_of (length slots) start → IsNotBefore names slots start end name
        → ((number : ℕ) → overflow_at overflow name ≡ Some number → HasNumber names number name → ⊥) → number_in names name ≡ None
    none_full full before over = no_name names name (λ number has. elim (kept_here number has) [
      | inl w ↦ in_window number has before w (omega (arith, w.most))
      | inr o ↦ over number o.gives has
    ])

pub if_none : {P : Type 0} (found : Option ℕ) → found ≡ None → IfNone found P → P
if_none None is h = h
if_none (Some number) is h = absurd cc

-- a look's answer
pub looked_over : (names : List (List ℕ)) (name : List ℕ) (found : Option ℕ) → AreNumbered names → IfSome found (λ number. HasNumber names number name)
    → (found ≡ None → number_in names name ≡ None) → found ≡ number_in names name
looked_over names name None numbered some none = sym (none refl)
looked_over names name (Some number) numbered some none = sym (named names name number numbered some)

-- slots of which the taken ones stay
abbrev Keeps : List ℕ → List ℕ → Type 0
Keeps old new = (at : ℕ) → 0 < get_or old at 0 → get_or new at 0 ≡ get_or old at 0

taken_more : (old new : List ℕ) (start end : ℕ) → Keeps old new → AreTaken old start end → AreTaken new start end
taken_more old new start end keeps taken at least most = let is = keeps at (taken at least most) in let was = taken at least most in omega arith

-- numbers that are kept stay so
kept_more : (old new : List ℕ) (overflow further : BTreeMap (Vec ℕ) ℕ) (number : ℕ) (name : List ℕ) → length new ≡ length old → Keeps old new → overflow_at further name ≡ overflow_at overflow name
    → 1 ≤ number → IsKept old overflow number name → IsKept new further number name
kept_more old new overflow further number name long keeps same least kept =
    subst (λ (n : ℕ). IsInWindow new (start_of n name) number ⊎ IsInOverflow new further (start_of n name) number name) (sym long) (elim kept [
      | inl w ↦ inl (record {
        at = w.at;
        least = w.least;
        most = let most = w.most in subst (λ (n : ℕ). w.at < end_of n (start_of (length old) name)) (sym long) most;
        is = keeps w.at (let is = w.is in omega arith) ∙ w.is;
        taken = taken_more old new (start_of (length old) name) w.at keeps w.taken;
      })
      | inr o ↦ inr (record {
        full = subst (λ (n : ℕ). AreTaken new (start_of (length old) name) (end_of n (start_of (length old) name))) (sym long)
            (taken_more old new (start_of (length old) name) (end_of (length old) (start_of (length old) name)) keeps o.full);
        gives = same ∙ o.gives;
      })
    ])

-- a number in the overflow
abbrev pub Updates : BTreeMap (Vec ℕ) ℕ → List ℕ → BTreeMap (Vec ℕ) ℕ → ℕ → Type 0
Updates overflow name further number = tree.UpdatesBy (λ x y. slice_cmp nat_cmp x.items y.items) (λ k. slice_cmp nat_cmp name k.items) overflow further (Some number)

pub put_in_overflow : (slots : List ℕ) (overflow further : BTreeMap (Vec ℕ) ℕ) (start end number : ℕ) (name : List ℕ) → start ≡ start_of (length slots) name → end_of (length slots) start ≤ end
    → AreTaken slots start end → Updates overflow name further number → IsKept slots further number name
put_in_overflow slots overflow further start end number name begins full taken updates =
    let hit : bytes_eq name name ≡ true = (bytes_decides name name).1 refl in
    inr (subst (λ (s : ℕ). IsInOverflow slots further s number name) begins (record {
      full = λ at least most. taken at least (omega arith);
      gives = updates_bytes name overflow further (Some number) updates name ∙ rw hit refl;
    }))

pub kept_by_overflow : (slots : List ℕ) (overflow further : BTreeMap (Vec ℕ) ℕ) (number known : ℕ) (name other : List ℕ) → other ≢ name → 1 ≤ known → Updates overflow name further number
    → IsKept slots overflow known other → IsKept slots further known other
kept_by_overflow slots overflow further number known name other apart least updates kept = elim (same_or_not name other) [
  | inl same ↦ absurd (apart (sym same))
  | inr miss ↦ kept_more slots slots overflow further known other refl (λ at taken. refl) (updates_bytes name overflow further (Some number) updates other ∙ rw miss refl) least kept
]

-- names of which each one is kept, and one more
apart_from : (names : List (List ℕ)) (new name : List ℕ) (number : ℕ) → AreNumbered names → number_in names new ≡ None → HasNumber names number name → name ≢ new
apart_from names new name number numbered fresh has same =
    let is : number_in names new ≡ Some number = ap (number_in names) (sym same) ∙ named names name number numbered has in
    cc

pub are_kept : (names : List (List ℕ)) (new : List ℕ) (slots further : List ℕ) (overflow wider : BTreeMap (Vec ℕ) ℕ) → AreNumbered names → number_in names new ≡ None
    → OthersStay slots overflow new further wider
    → AreKept names slots overflow → AreKept names further wider
are_kept names new slots further overflow wider numbered fresh more kept number name has = more number name (apart_from names new name number numbered fresh has) has.0 (kept number name has)

pub are_kept_more : (names : List (List ℕ)) (new : List ℕ) (slots : List ℕ) (overflow : BTreeMap (Vec ℕ) ℕ) (number : ℕ) → number ≡ length names + 1 → IsKept slots overflow number new
    → AreKept names slots overflow → AreKept (names ++ new ∷ []) slots overflow
are_kept_more names new slots overflow number is put kept known name has = elim (last_or_before names new (known - 1) name has.1) [
  | inl before ↦ kept known name (has.0, before)
  | inr (at, same) ↦ let n : number ≡ known = omega (arith, has.0) in
      subst (λ (k : ℕ). IsKept slots overflow k name) n (subst (IsKept slots overflow number) same put)
]

-- the names up to a place are kept, and one more
abbrev pub AreKeptTo : List (List ℕ) → List ℕ → BTreeMap (Vec ℕ) ℕ → ℕ → Type 0
AreKeptTo names slots overflow place = (number : ℕ) (name : List ℕ) → HasNumber names number name → number ≤ place → IsKept slots overflow number name

number_apart : (names : List (List ℕ)) (name other : List ℕ) (number known : ℕ) → AreNumbered names → HasNumber names number name → HasNumber names known other → known < number → other ≢ name
number_apart names name other number known numbered has had less same =
    let is : number_in names name ≡ Some number = named names name number numbered has in
    let was : number_in names name ≡ Some known = ap (number_in names) (sym same) ∙ named names other known numbered had in
    let both : number ≡ known = cc in
    omega arith

same_number : (names : List (List ℕ)) (name other : List ℕ) (place known : ℕ) → slice_get names place ≡ Some name → HasNumber names known other → known ≡ place + 1 → name ≡ other
same_number names name other place known at had same =
    let is : known - 1 ≡ place = omega arith in
    let was : slice_get names place ≡ Some other = ap (slice_get names) (sym is) ∙ had.1 in
    cc

pub kept_next : (names : List (List ℕ)) (name : List ℕ) (slots further : List ℕ) (overflow wider : BTreeMap (Vec ℕ) ℕ) (place : ℕ) → AreNumbered names → slice_get names place ≡ Some name
    → IsKept further wider (place + 1) name
    → OthersStay slots overflow name further wider
    → AreKeptTo names slots overflow place → AreKeptTo names further wider (place + 1)
kept_next names name slots further overflow wider place numbered at put more kept known other had most = elim (cases_order known (place + 1)) [
  | inl same ↦ subst (λ (k : ℕ). IsKept further wider k other) (sym same) (subst (IsKept further wider (place + 1)) (same_number names name other place known at had same) put)
  | inr (inl less) ↦
      let here : place ≡ place + 1 - 1 = omega arith in
      let has : HasNumber names (place + 1) name = (omega arith, ap (slice_get names) (sym here) ∙ at) in
      more known other (number_apart names name other (place + 1) known numbered has had less) had.0 (kept known other had (omega arith))
  | inr (inr over) ↦ absurd (omega arith)
]
