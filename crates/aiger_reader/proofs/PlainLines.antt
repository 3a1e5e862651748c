-- A whole line holds an LF at its end alone.
use Rattle.std.proofs.Common.{◌≡◌, ◌≢◌, ℕ, zero, suc, ◌+◌, ◌-◌, ◌<◌, ◌≤◌, Bool, true, false, cond, eqb, List, [], ◌∷◌, ◌++◌, length, get_or, take, refl, sym, ap, subst, ◌∙◌, inl, inr, arith}
use Rattle.std.proofs.lemmas.Bool.{eqb-false, cases_lt}
use Rattle.std.proofs.lemmas.List.{length-append, length-take, get_or-take, get_or_default}
use Rattle.std.proofs.lemmas.List.Elements.{All-take}
use Rattle.word_scan.specs.Lines.{HasNoFeed}
use Rattle.aiger_reader.specs.declared.units.UnitKind.{UnitKind}
use Rattle.aiger_reader.specs.declared.units.UnitKind.TheVariants.{Line}
use Rattle.aiger_reader.specs.Units.{without_last, line_of, HasNoEnd, IsFirstEnd}

get_left : (xs ys : List ℕ) (k d : ℕ) → k < length xs → get_or (xs ++ ys) k d ≡ get_or xs k d
get_left [] ys k d lt = absurd (omega arith)
get_left (x ∷ xs) ys zero d lt = refl
get_left (x ∷ xs) ys (suc k) d lt = get_left xs ys k d (omega arith)

get_right : (xs ys : List ℕ) (k d : ℕ) → get_or (xs ++ ys) (length xs + k) d ≡ get_or ys k d
get_right [] ys k d = let e : 0 + k ≡ k = omega arith in ap (λ n. get_or ys n d) e
get_right (x ∷ xs) ys k d = let e : length (x ∷ xs) + k ≡ suc (length xs + k) = omega arith in ap (λ n. get_or (x ∷ (xs ++ ys)) n d) e ∙ get_right xs ys k d

without_plain : (byte : ℕ) (xs : List ℕ) (b : Bool) → HasNoFeed xs → HasNoFeed (cond b (take (length xs - 1) xs) xs)
without_plain byte xs true plain = All-take (λ byte. byte ≢ 10) (length xs - 1) xs plain
without_plain byte xs false plain = plain

-- bytes of which none but the last is LF
prefix_plain : (unit : List ℕ) (n : ℕ) → n ≤ length unit → ((k : ℕ) → k < n → eqb (get_or unit k 0) 10 ≡ false) → HasNoFeed (take n unit)
prefix_plain unit n le none k d lt e =
    let small : k < n = omega (arith, lt, length-take n unit) in
    let same : get_or (take n unit) k d ≡ get_or unit k 0 = get_or-take n unit k d small ∙ get_or_default unit k d 0 (omega arith) in
    eqb-false (get_or unit k 0) 10 (none k small) (sym same ∙ e)

line_plain : (unit : List ℕ) (n : ℕ) → length unit ≡ n + 1 → eqb (get_or unit n 0) 10 ≡ true → ((k : ℕ) → k < n → eqb (get_or unit k 0) 10 ≡ false) → HasNoFeed (line_of unit)
line_plain unit n long last none =
    let at : length unit - 1 ≡ n = omega (arith, long) in
    let ends : eqb (get_or unit (length unit - 1) 0) 10 ≡ true = ap (λ k. eqb (get_or unit k 0) 10) at ∙ last in
    let cut : without_last 10 unit ≡ take n unit = ap (λ b. cond b (take (length unit - 1) unit) unit) ends ∙ ap (λ k. take k unit) at in
    let plain : HasNoFeed (without_last 10 unit) = subst HasNoFeed (sym cut) (prefix_plain unit n (omega (arith, long)) none) in
    without_plain 13 (without_last 10 unit) (eqb (get_or (without_last 10 unit) (length (without_last 10 unit) - 1) 0) 13) plain

whole_plain : (begun piece : List ℕ) (end : ℕ) → HasNoEnd Line 0 begun → IsFirstEnd Line (length begun) piece end → HasNoFeed (line_of (begun ++ take (end + 1) piece))
whole_plain begun piece end unended found =
    let part : List ℕ = take (end + 1) piece in
    let long : length part ≡ end + 1 = omega (arith, length-take (end + 1) piece, found.within) in
    line_plain (begun ++ part) (length begun + end) (omega (arith, length-append begun part, long))
    (ap (λ b. eqb b 10) (get_right begun part end 0 ∙ get_or-take (end + 1) piece end 0 (omega arith)) ∙ found.ends) none
  where
    none : (k : ℕ) → k < length begun + end → eqb (get_or (begun ++ take (end + 1) piece) k 0) 10 ≡ false
    none k lt =
        elim (cases_lt k (length begun)) [
          | inl before ↦ ap (λ b. eqb b 10) (get_left begun (take (end + 1) piece) k 0 before) ∙ unended k before
          | inr past ↦
              let j : ℕ = k - length begun in
              let split : k ≡ length begun + j = omega arith in
              ap (λ n. eqb (get_or (begun ++ take (end + 1) piece) n 0) 10) split
              ∙ ap (λ b. eqb b 10) (get_right begun (take (end + 1) piece) j 0 ∙ get_or-take (end + 1) piece j 0 (omega arith))
              ∙ found.before j (omega arith)
        ]

-- the line of a unit that a piece completes
pub unit_plain : (kind : UnitKind) (begun piece : List ℕ) (end : ℕ) → kind ≡ Line → HasNoEnd kind 0 begun → IsFirstEnd kind (length begun) piece end
    → HasNoFeed (line_of (begun ++ take (end + 1) piece))
unit_plain kind begun piece end is unended found =
    whole_plain begun piece end (subst (λ k. HasNoEnd k 0 begun) is unended) (subst (λ k. IsFirstEnd k (length begun) piece end) is found)

get_zero : (xs : List ℕ) (k d : ℕ) → k < length xs → get_or xs k d ≡ get_or xs k 0
get_zero xs k d lt = get_or_default xs k d 0 lt

-- the line of a unit that the end of the text closes
pub begun_plain : (begun : List ℕ) → HasNoEnd Line 0 begun → HasNoFeed (line_of begun)
begun_plain begun unended =
    without_plain 13 (without_last 10 begun) (eqb (get_or (without_last 10 begun) (length (without_last 10 begun) - 1) 0) 13)
    (without_plain 10 begun (eqb (get_or begun (length begun - 1) 0) 10) (λ k d lt e. eqb-false (get_or begun k 0) 10 (unended k lt) (sym (get_zero begun k d lt) ∙ e)))
