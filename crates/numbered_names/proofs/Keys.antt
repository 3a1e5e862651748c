-- A table of byte strings after one more.
use Rattle.std.proofs.Common.{◌≡◌, ℕ, zero, suc, ◌+◌, ◌-◌, ◌≤◌, ◌⊎◌, inl, inr, Bool, true, false, cond, List, [], ◌∷◌, ◌++◌, length, slice_get, Option, Some, None, refl, sym, ap, ◌∙◌, arith}
use Rattle.std.specs.Global.{Vec}
use Rattle.std.specs.Str.{bytes_eq}
use Rattle.std.specs.Ordering.{is_eq, nat_cmp}
use Rattle.std.specs.Cmp.{eq_by_cmp_equiv}
use Rattle.std.specs.Cmp.Lexicographic.{slice_cmp, bytes_decides, nat_list_cmp_total, nat_list_eq_equiv}
use Rattle.std.specs.BTreeMap as tree
use Rattle.std.specs.BTreeMap.{BTreeMap}
use Rattle.std.specs.Map.{lookup, IsKeyTest, AreApart, KeepsOthers}
use Rattle.std.proofs.lemmas.Map.Text.{is_eq-slice_cmp}
use Rattle.numbered_names.specs.Names.{AreNumbered, number_from, number_in}
use Rattle.numbered_names.specs.NameTables.{overflow_at}

same_bool : (b : Bool) → (b ≡ true) ⊎ (b ≡ false)
same_bool true = inl refl
same_bool false = inr refl

apart : (bs cs ks : List ℕ) → bytes_eq bs cs ≡ false → bytes_eq bs ks ≡ true → bytes_eq cs ks ≡ false
apart bs cs ks n y = nat_list_eq_equiv.symm cs ks ∙ sym (nat_list_eq_equiv.congr bs ks cs y) ∙ n

apart_in_order : (bs cs ks : List ℕ) → bytes_eq bs cs ≡ false → is_eq (slice_cmp nat_cmp bs ks) ≡ true → is_eq (slice_cmp nat_cmp cs ks) ≡ false
apart_in_order bs cs ks n y = is_eq-slice_cmp cs ks ∙ apart bs cs ks n (sym (is_eq-slice_cmp bs ks) ∙ y)

module _ {K : Type 0} (eq : K → K → Bool) (test : K → Bool) where
  other_entries : {X : Type 0} (old new : List (K × X)) → KeepsOthers eq test old new → (other : K → Bool) → IsKeyTest eq other → AreApart test other → lookup other new ≡ lookup other old
  unfolding KeepsOthers
  other_entries old new h = h

pub updates_bytes : (bs : List ℕ) (m n : BTreeMap (Vec ℕ) ℕ) (w : Option ℕ) → tree.UpdatesBy (λ x y. slice_cmp nat_cmp x.items y.items) (λ k. slice_cmp nat_cmp bs k.items) m n w
    → (cs : List ℕ) → overflow_at n cs ≡ cond (bytes_eq bs cs) w (overflow_at m cs)
updates_bytes bs m n w h cs =
    elim (same_bool (bytes_eq bs cs)) [
      | inl hit ↦ let same : bs ≡ cs = (bytes_decides bs cs).0 hit in rw hit (ap (overflow_at n) (sym same) ∙ h.1)
      | inr miss ↦ rw miss (other_entries _ _ _ _ h.3 _ (λ x y. (eq_by_cmp_equiv nat_list_cmp_total).congr cs x.items y.items) (λ k. apart_in_order bs cs k.items miss))
    ]

cond_none : (b : Bool) (x : ℕ) (y : Option ℕ) → cond b (Some x) y ≡ None → (b ≡ false) × (y ≡ None)
cond_none true x y h = absurd cc
cond_none false x y h = (refl, h)

swap_cond : (q : Bool) (b : Bool) (x : Option ℕ) (y z : Option ℕ) → (q ≡ true → b ≡ false) → cond b x (cond q y z) ≡ cond q y (cond b x z)
swap_cond true b x y z h = rw (h refl) refl
swap_cond false b x y z h = refl

pub number_push : (first : ℕ) (names : List (List ℕ)) (new name : List ℕ) → number_from first names new ≡ None
    → number_from first (names ++ new ∷ []) name ≡ cond (bytes_eq new name) (Some (first + length names)) (number_from first names name)
number_push first [] new name h =
    let n : first + length {A = List ℕ} [] ≡ first = omega arith in
    rw (n, nat_list_eq_equiv.symm new name) refl
number_push first (other ∷ names) new name h =
    let c = cond_none (bytes_eq new other) first (number_from (first + 1) names new) h in
    let n : first + 1 + length names ≡ first + length (other ∷ names) = omega arith in
    ap (cond (bytes_eq name other) (Some first)) (number_push (first + 1) names new name c.1)
    ∙ swap_cond (bytes_eq new name) (bytes_eq name other) (Some first) (Some (first + 1 + length names)) (number_from (first + 1) names name)
    (λ hit. sym (nat_list_eq_equiv.congr new name other hit) ∙ c.0)
    ∙ ap (λ k. cond (bytes_eq new name) (Some k) (cond (bytes_eq name other) (Some first) (number_from (first + 1) names name))) n

pub number_new : (names : List (List ℕ)) (name : List ℕ) (number : ℕ) → number_in names name ≡ None → number ≡ length names + 1 → number_in (names ++ name ∷ []) name ≡ Some number
number_new names name number fresh is =
    let hit : bytes_eq name name ≡ true = (bytes_decides name name).1 refl in
    let k : 1 + length names ≡ number = omega arith in
    number_push 1 names name name fresh ∙ rw hit (ap (λ j. Some j) k)

pub no_number : (o : Option ℕ) → ((n : ℕ) → o ≡ Some n → ⊥) → o ≡ None
no_number None h = refl
no_number (Some n) h = absurd (h n refl)

-- an item of names with a new one behind them is one of the names, or the new one
pub last_or_before : (names : List (List ℕ)) (new : List ℕ) (place : ℕ) (name : List ℕ) → slice_get (names ++ new ∷ []) place ≡ Some name
    → (slice_get names place ≡ Some name) ⊎ ((place ≡ length names) × (new ≡ name))
last_or_before [] new zero name e = inr (refl, cc)
last_or_before [] new (suc place) name e = cc
last_or_before (other ∷ names) new zero name e = inl e
last_or_before (other ∷ names) new (suc place) name e = elim (last_or_before names new place name e) [
  | inl before ↦ inl before
  | inr (is, same) ↦ inr (ap suc is, same)
]

-- names that have the numbers of their places, and a new one behind them
pub same_or_not : (one other : List ℕ) → ((one ≡ other) ⊎ (bytes_eq one other ≡ false))
same_or_not one other = elim (same_bool (bytes_eq one other)) [ inl hit ↦ inl ((bytes_decides one other).0 hit) | inr miss ↦ inr miss ]

other_numbered : (names : List (List ℕ)) (new name : List ℕ) (number : ℕ) → number_in names new ≡ None → number_in names name ≡ Some number
    → number_in (names ++ new ∷ []) name ≡ Some number
other_numbered names new name number fresh is = elim (same_or_not new name) [
  | inl same ↦ let both : number_in names new ≡ Some number = ap (number_in names) same ∙ is in cc
  | inr miss ↦ number_push 1 names new name fresh ∙ rw miss is
]

pub numbered_more : (names : List (List ℕ)) (new : List ℕ) → AreNumbered names → number_in names new ≡ None → AreNumbered (names ++ new ∷ [])
numbered_more names new numbered fresh place name at = elim (last_or_before names new place name at) [
  | inl before ↦ other_numbered names new name (place + 1) fresh (numbered place name before)
  | inr (is, same) ↦ ap (number_in (names ++ new ∷ [])) (sym same) ∙ number_new names new (place + 1) fresh (ap (λ n. n + 1) is)
]

-- the number of a name that stands at its place
pub noted_number : (names : List (List ℕ)) (name : List ℕ) (number : ℕ) → AreNumbered names → 1 ≤ number → slice_get names (number - 1) ≡ Some name
    → number_in names name ≡ Some number
noted_number names name number numbered least at = let n : number - 1 + 1 ≡ number = omega arith in numbered (number - 1) name at ∙ ap (λ k. Some k) n
