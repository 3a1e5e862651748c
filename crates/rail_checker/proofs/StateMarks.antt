-- The marks of the cells that the first state lines name.
use Rattle.std.proofs.Common.{◌≡◌, ℕ, zero, suc, ◌+◌, ◌≤◌, ◌<◌, ◌&&◌, inl, inr, Option, Some, None, List, length, get_or, replicate, Bool, true, false, not, slice_get, slice_set, refl, sym, ap}
use Rattle.std.proofs.Common.{subst, ◌∙◌, arith}
use Rattle.std.proofs.lemmas.Bool.{and_parts, cases_eq, cases_lt, cases_Bool, true≢false}
use Rattle.std.proofs.lemmas.List.{length-replicate, get_or-set_same, get_or-set_other, length-set}
use Rattle.std.proofs.lemmas.Option.{slice_get_within}
use Rattle.cell_netlist.specs.declared.lines.Cell.{Cell}
use Rattle.cell_netlist.specs.declared.lines.StateLine.{StateLine}
use Rattle.cell_netlist.specs.declared.unsound.Unsound.TheVariants.{LooseState}
use Rattle.cell_netlist.specs.Netlists.{PlainNetlist}
use Rattle.cell_netlist.specs.Sound.{NamesBack, Breaks}
use Rattle.cell_netlist.specs.Decisions.{is_some_with, is_back, names_back}
use Rattle.cell_netlist.proofs.CallerLemmas.{names_back-at, names_back-from}
use Rattle.rail_checker.specs.States.{is_new_back}
use Rattle.rail_checker.specs.Verdicts.{IsFirst}

-- an earlier state line than this number names the cell
abbrev IsNamed : PlainNetlist → ℕ → ℕ → Type 0
IsNamed net count cell = (k : ℕ) × (line : StateLine) × (k < count) × (slice_get net.states k ≡ Some line) × (line.cell.number ≡ cell)

-- the marks are the cells that the first state lines name, and none of these is loose
pub record AreMarks (net : PlainNetlist) (count : ℕ) (marks : List Bool) : Type 0 where
  pub width : length marks ≡ length net.cells
  pub named : (cell : ℕ) → get_or marks cell false ≡ true → IsNamed net count cell
  pub marked : (cell : ℕ) → IsNamed net count cell → get_or marks cell false ≡ true
  pub none_loose : (k : ℕ) → k < count → Breaks net (LooseState k) → ⊥

none_marked : (count cell : ℕ) → get_or (replicate count false) cell false ≡ false
none_marked zero cell = refl
none_marked (suc count) zero = refl
none_marked (suc count) (suc cell) = none_marked count cell

-- a cell that is tested to be a back is there
pub back_within : (cells : List Cell) (cell : ℕ) → is_some_with is_back (slice_get cells cell) ≡ true → cell < length cells
back_within cells cell e = by (slice_get cells cell) refl e
  where
    by : (o : Option Cell) → slice_get cells cell ≡ o → is_some_with is_back o ≡ true → cell < length cells
    by None at e = absurd cc
    by (Some its) at e = slice_get_within cells cell its at

pub no_marks : (net : PlainNetlist) (marks : List Bool) → marks ≡ replicate (length net.cells) false → AreMarks net 0 marks
no_marks net marks e = subst (λ (l : List Bool). AreMarks net 0 l) (sym e) (record {
  width = length-replicate (length net.cells) false;
  named = λ cell at. absurd (true≢false (sym at ∙ none_marked (length net.cells) cell));
  marked = λ cell named. absurd (omega (arith, named.2));
  none_loose = λ k lt. absurd (omega (arith, lt));
})

module _ (net : PlainNetlist) (k : ℕ) (marks : List Bool) (are : AreMarks net k marks) (line : StateLine) (at_line : slice_get net.states k ≡ Some line) where
  -- a state line that names a back for the first time isn't loose
  not_loose : NamesBack net line → get_or marks line.cell.number false ≡ false → Breaks net (LooseState k) → ⊥
  not_loose back new (its, at_its, inl loose) = let same : its ≡ line = cc in loose (subst (NamesBack net) (sym same) back)
  not_loose back new (its, at_its, inr before) =
      let same : its ≡ line = cc in
      let named : IsNamed net k line.cell.number = (before.0, before.1, before.2, before.3, before.4 ∙ ap (λ (l : StateLine). l.cell.number) same) in
      true≢false (sym (are.marked line.cell.number named) ∙ new)

  -- one that doesn't is loose
  pub is_loose : is_new_back net.cells marks line.cell.number ≡ false → Breaks net (LooseState k)
  is_loose e = elim (cases_Bool (names_back net.cells line)) [
    | inl back ↦
        let seen : get_or marks line.cell.number false ≡ true = by_not (names_back net.cells line) (get_or marks line.cell.number false) back e in
        let named = are.named line.cell.number seen in
        (line, at_line, inr (named.0, named.1, named.2, named.3, named.4))
    | inr loose ↦ (line, at_line, inl (λ back. true≢false (sym (names_back-from net line back) ∙ loose)))
  ]
    where
      by_not : (back seen : Bool) → back ≡ true → (back && not seen) ≡ false → seen ≡ true
      by_not true true b n = refl
      by_not true false b n = absurd cc
      by_not false seen b n = absurd cc

  -- the marks with its cell
  pub more_marks : is_new_back net.cells marks line.cell.number ≡ true → AreMarks net (k + 1) (slice_set marks line.cell.number true)
  more_marks e =
      let both = and_parts (names_back net.cells line) (not (get_or marks line.cell.number false)) e in
      let back = names_back-at net line both.0 in
      let new : get_or marks line.cell.number false ≡ false = by_not (get_or marks line.cell.number false) both.1 in
      let within : line.cell.number < length marks = omega (arith, slice_get_within net.cells line.cell.number back.0 back.1, are.width) in
      record {
        width = length-set marks line.cell.number true ∙ are.width;
        named = λ cell at. elim (cases_eq line.cell.number cell) [
          | inl same ↦ (k, line, omega arith, at_line, same)
          | inr other ↦
              let named = are.named cell (sym (get_or-set_other marks line.cell.number cell true false (λ e. other (sym e))) ∙ at) in
              (named.0, named.1, omega (arith, named.2), named.3, named.4)
        ];
        marked = λ cell named. elim (cases_eq line.cell.number cell) [
          | inl same ↦ subst (λ c. get_or (slice_set marks line.cell.number true) c false ≡ true) same (get_or-set_same marks line.cell.number true false within)
          | inr other ↦
              get_or-set_other marks line.cell.number cell true false (λ e. other (sym e))
              ∙ are.marked cell (earlier cell other named)
        ];
        none_loose = λ n lt broken. elim (cases_lt n k) [
          | inl before ↦ are.none_loose n before broken
          | inr late ↦
              let same : n ≡ k = omega (arith, late, lt) in
              not_loose back new (subst (λ m. Breaks net (LooseState m)) same broken)
        ];
      }
    where
      by_not : (seen : Bool) → not seen ≡ true → seen ≡ false
      by_not true n = absurd cc
      by_not false n = refl

      earlier : (cell : ℕ) → (line.cell.number ≡ cell → ⊥) → IsNamed net (k + 1) cell → IsNamed net k cell
      earlier cell other (n, its, lt, at_its, names) = elim (cases_lt n k) [
        | inl before ↦ (n, its, before, at_its, names)
        | inr late ↦
            let same : n ≡ k = omega (arith, late, lt) in
            let its_line : slice_get net.states k ≡ Some its = subst (λ m. slice_get net.states m ≡ Some its) same at_its in
            let one : its ≡ line = cc in
            absurd (other (sym (ap (λ (l : StateLine). l.cell.number) one) ∙ names))
      ]

  -- the first that is loose
  pub first_is : is_new_back net.cells marks line.cell.number ≡ false → IsFirst (λ n. Breaks net (LooseState n)) (Some k)
  first_is e = (is_loose e, are.none_loose)

-- none is loose
pub none_is : (net : PlainNetlist) (count : ℕ) (marks : List Bool) → length net.states ≤ count → AreMarks net count marks → IsFirst (λ n. Breaks net (LooseState n)) None
none_is net count marks le are n broken = are.none_loose n (omega (arith, slice_get_within net.states n broken.0 broken.1, le)) broken

pub none_of_none : (net : PlainNetlist) → length net.states ≡ 0 → IsFirst (λ n. Breaks net (LooseState n)) None
none_of_none net e n broken = omega (arith, slice_get_within net.states n broken.0 broken.1, e)
