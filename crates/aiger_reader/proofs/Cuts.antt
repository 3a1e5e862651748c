-- Units of bytes that are cut in two, and of a part of a piece.
use Rattle.std.proofs.Common.{◌≡◌, ℕ, zero, suc, ◌+◌, ◌<◌, true, false, cond, List, [], ◌∷◌, ◌++◌, length, get_or, take, refl, sym, ap, subst, ◌∙◌, append_assoc, arith}
use Rattle.std.proofs.lemmas.List.{append-nil, length_push}
use Rattle.aiger_reader.specs.declared.units.UnitKind.{UnitKind}
use Rattle.aiger_reader.specs.Units.{ends_with, units_after, begun_after, HasNoEnd, IsFirstEnd}

module _ (kind : List (List ℕ) → UnitKind) where
  pub units_joined : (before : List (List ℕ)) (begun xs ys : List ℕ)
      → units_after kind before begun (xs ++ ys) ≡ units_after kind before begun xs ++ units_after kind (before ++ units_after kind before begun xs) (begun_after kind before begun xs) ys
  units_joined before begun [] ys = ap (λ (b : List (List ℕ)). units_after kind b begun ys) (sym (append-nil before))
  units_joined before begun (x ∷ xs) ys =
      let unit : List ℕ = begun ++ x ∷ [] in
      elim (ends_with (kind before) (length begun) x) as (λ b. cond b (unit ∷ units_after kind (before ++ unit ∷ []) [] (xs ++ ys)) (units_after kind before unit (xs ++ ys))
      ≡ cond b (unit ∷ units_after kind (before ++ unit ∷ []) [] xs) (units_after kind before unit xs)
      ++ units_after kind (before ++ cond b (unit ∷ units_after kind (before ++ unit ∷ []) [] xs) (units_after kind before unit xs))
      (cond b (begun_after kind (before ++ unit ∷ []) [] xs) (begun_after kind before unit xs)) ys) [
        | true ↦ ap (λ (us : List (List ℕ)). unit ∷ us) (units_joined (before ++ unit ∷ []) [] xs ys
            ∙ ap (λ (b : List (List ℕ)). units_after kind (before ++ unit ∷ []) [] xs ++ units_after kind b (begun_after kind (before ++ unit ∷ []) [] xs) ys)
            (append_assoc before (unit ∷ []) (units_after kind (before ++ unit ∷ []) [] xs)))
        | false ↦ units_joined before unit xs ys
      ]

  pub begun_joined : (before : List (List ℕ)) (begun xs ys : List ℕ) → begun_after kind before begun (xs ++ ys) ≡ begun_after kind (before ++ units_after kind before begun xs)
      (begun_after kind before begun xs) ys
  begun_joined before begun [] ys = ap (λ (b : List (List ℕ)). begun_after kind b begun ys) (sym (append-nil before))
  begun_joined before begun (x ∷ xs) ys =
      let unit : List ℕ = begun ++ x ∷ [] in
      elim (ends_with (kind before) (length begun) x) as (λ b. cond b (begun_after kind (before ++ unit ∷ []) [] (xs ++ ys)) (begun_after kind before unit (xs ++ ys))
      ≡ begun_after kind (before ++ cond b (unit ∷ units_after kind (before ++ unit ∷ []) [] xs) (units_after kind before unit xs))
      (cond b (begun_after kind (before ++ unit ∷ []) [] xs) (begun_after kind before unit xs)) ys) [
        | true ↦ begun_joined (before ++ unit ∷ []) [] xs ys ∙ ap (λ (b : List (List ℕ)). begun_after kind b (begun_after kind (before ++ unit ∷ []) [] xs) ys) (append_assoc before
            (unit ∷ []) (units_after kind (before ++ unit ∷ []) [] xs))
        | false ↦ begun_joined before unit xs ys
      ]

  ends_at : (before : List (List ℕ)) (begun xs : List ℕ) (i : ℕ) → i < length xs → ends_with (kind before) (length begun + i) (get_or xs i 0) ≡ true
      → ((k : ℕ) → k < i → ends_with (kind before) (length begun + k) (get_or xs k 0) ≡ false)
      → (units_after kind before begun (take (suc i) xs) ≡ (begun ++ take (suc i) xs) ∷ []) × (begun_after kind before begun (take (suc i) xs) ≡ [])
  ends_at before begun [] i lt hit fore = absurd (omega arith)
  ends_at before begun (x ∷ xs) zero lt hit fore =
      let n : length begun + 0 ≡ length begun = omega arith in
      let e : ends_with (kind before) (length begun) x ≡ true = subst (λ m. ends_with (kind before) m x ≡ true) n hit in
      (rw e refl, rw e refl)
  ends_at before begun (x ∷ xs) (suc i) lt hit fore =
      let n : length begun + 0 ≡ length begun = omega arith in
      let first : ends_with (kind before) (length begun) x ≡ false = subst (λ m. ends_with (kind before) m x ≡ false) n (fore 0 (omega arith)) in
      let shift : (k : ℕ) → length begun + suc k ≡ length (begun ++ x ∷ []) + k = λ k. omega (arith, length_push begun x) in
      let rest = ends_at before (begun ++ x ∷ []) xs i (omega arith) (subst (λ m. ends_with (kind before) m (get_or xs i 0) ≡ true) (shift i) hit)
      (λ k h. subst (λ m. ends_with (kind before) m (get_or xs k 0) ≡ false) (shift k) (fore (suc k) (omega arith))) in
      (rw first (rest.0 ∙ ap (λ (l : List ℕ). l ∷ []) (append_assoc begun (x ∷ []) (take (suc i) xs))), rw first rest.1)

  goes_on : (before : List (List ℕ)) (begun xs : List ℕ) → ((k : ℕ) → k < length xs → ends_with (kind before) (length begun + k) (get_or xs k 0) ≡ false)
      → (units_after kind before begun xs ≡ []) × (begun_after kind before begun xs ≡ begun ++ xs)
  goes_on before begun [] none = (refl, sym (append-nil begun))
  goes_on before begun (x ∷ xs) none =
      let n : length begun + 0 ≡ length begun = omega arith in
      let first : ends_with (kind before) (length begun) x ≡ false = subst (λ m. ends_with (kind before) m x ≡ false) n (none 0 (omega arith)) in
      let shift : (k : ℕ) → length begun + suc k ≡ length (begun ++ x ∷ []) + k = λ k. omega (arith, length_push begun x) in
      let rest = goes_on before (begun ++ x ∷ []) xs (λ k h. subst (λ m. ends_with (kind before) m (get_or xs k 0) ≡ false) (shift k) (none (suc k) (omega arith))) in
      (rw first rest.0, rw first (rest.1 ∙ append_assoc begun (x ∷ []) xs))

  -- the part of a piece that completes a unit gives this one and leaves nothing
  pub part_with_end : (before : List (List ℕ)) (begun piece : List ℕ) (end : ℕ) → IsFirstEnd (kind before) (length begun) piece end
      → (units_after kind before begun (take (end + 1) piece) ≡ (begun ++ take (end + 1) piece) ∷ []) × (begun_after kind before begun (take (end + 1) piece) ≡ [])
  part_with_end before begun piece end found =
      let next : suc end ≡ end + 1 = omega arith in
      subst (λ n. (units_after kind before begun (take n piece) ≡ (begun ++ take n piece) ∷ []) × (begun_after kind before begun (take n piece) ≡ [])) next
      (ends_at before begun piece end found.within found.ends found.before)

  -- a piece that completes no unit adds to the one that has begun
  pub piece_without_end : (before : List (List ℕ)) (begun piece : List ℕ) → HasNoEnd (kind before) (length begun) piece
      → (units_after kind before begun piece ≡ []) × (begun_after kind before begun piece ≡ begun ++ piece)
  piece_without_end before begun piece none = goes_on before begun piece none
