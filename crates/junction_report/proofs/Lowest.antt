-- The lowest cell of the greatest depth.
use Rattle.std.proofs.Common.{◌≡◌, ◌≤◌, ◌<◌, ◌==◌, ◌⊎◌, ℕ, suc, inl, inr, Bool, true, false, cond, Option, Some, None, List, [], ◌∷◌, length, get_or, refl, sym, ◌∙◌, arith, eq-eqb}
use Rattle.std.specs.Prelude.{option_map}
use Rattle.std.specs.Prelude.{nat_lt}
use Rattle.std.specs.List.{position, position_or_len}
use Rattle.std.proofs.lemmas.List.Sums.{fails_before_first}
use Rattle.std.proofs.lemmas.Bool.{eqb-true, ltb-false, cases_lt}
use Rattle.std.proofs.lemmas.List.Quantifiers.{position-Some}
use Rattle.pulse_ids.specs.Ids.{CellId}
use Rattle.junction_report.specs.Depths.{most}
use Rattle.junction_report.specs.Traces.{IsLast}

-- where no place passes, each fails
none_passes : (test : ℕ → Bool) (xs : List ℕ) → position test xs ≡ None → (k : ℕ) → k < length xs → test (get_or xs k 0) ≡ false
none_passes test xs e k lt = go (nat_lt (position_or_len test xs) (length xs)) refl
  where
    go : (t : Bool) → nat_lt (position_or_len test xs) (length xs) ≡ t → test (get_or xs k 0) ≡ false
    go true s = let found : cond (nat_lt (position_or_len test xs) (length xs)) (Some (position_or_len test xs)) None ≡ None = e in absurd cc
    go false s = let le = ltb-false (position_or_len test xs) (length xs) s in fails_before_first test xs k 0 (omega arith)

-- some place has the greatest number
pub most_found : (table : List ℕ) → 1 ≤ most table → (d : ℕ) × (d < length table) × (get_or table d 0 ≡ most table)
most_found [] h = absurd (omega arith)
most_found (x ∷ table) h = go (cases_lt x (most table)) (most_found table)
  where
    go : (x < most table) ⊎ (most table ≤ x) → (1 ≤ most table → (d : ℕ) × (d < length table) × (get_or table d 0 ≡ most table))
        → (d : ℕ) × (d < length (x ∷ table)) × (get_or (x ∷ table) d 0 ≡ most (x ∷ table))
    go (inl lt) rest = let r = rest (omega arith) in let low = r.1 in let e = r.2 in (suc r.0, omega arith, omega arith)
    go (inr ge) rest = (0, omega arith, omega arith)

module _ (table : List ℕ) (n : ℕ) (e : n ≡ most table) (some : 1 ≤ n) where
  is_deepest : (d : ℕ) → get_or table d 0 ≡ most table → (get_or table d 0 == n) ≡ true
  is_deepest d h = eq-eqb (get_or table d 0) n (h ∙ sym e)

  pub last_is : (found : Option CellId) → option_map (λ (cell : CellId). cell.number) found ≡ position (λ other. other == n) table → IsLast table found
  last_is None p =
      let found = most_found table (omega arith) in
      let fails = none_passes (λ other. other == n) table (sym p) found.0 found.1 in
      let passes = is_deepest found.0 found.2 in absurd cc
  last_is (Some cell) p =
      let at = position-Some (λ other. other == n) table cell.number 0 (sym p) in
      let same : get_or table cell.number 0 ≡ n = eqb-true (get_or table cell.number 0) n at.1 in (
        omega arith,
        same ∙ e,
        λ d h. elim (cases_lt d cell.number) [
          | inl lt ↦ let fails = at.2 d lt in let passes = is_deepest d h in absurd cc
          | inr ge ↦ ge
        ],
      )
