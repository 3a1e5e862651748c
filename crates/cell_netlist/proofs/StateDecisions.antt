-- The decision on state lines tells its rule.
use Rattle.std.proofs.Common.{◌≡◌, ◌↔◌, ◌⊎◌, ℕ, true, not, ◌==◌, Option, Some, slice_get, ap, sym, ◌∙◌, subst, inl, inr, refl}
use Rattle.std.proofs.lemmas.Bool.{and_parts, and_from, eqb-true, eq-eqb, cases_eq, cases_Bool, true≢false}
use Rattle.cell_netlist.specs.declared.kinds.Role.TheVariants.{Front, Back, Const}
use Rattle.cell_netlist.specs.declared.lines.Cell.{Cell}
use Rattle.cell_netlist.specs.declared.lines.Cell.TheVariants.{La, Fa, Split, Droc}
use Rattle.cell_netlist.specs.declared.lines.StateLine.{StateLine}
use Rattle.cell_netlist.specs.Netlists.{PlainNetlist}
use Rattle.cell_netlist.specs.Sound.{IsBack, NamesBack, IsNamedBefore, AreStatesRight}
use Rattle.cell_netlist.specs.Decisions.{is_some_with, is_back, names_back, name_other_cells, are_states_right}
use Rattle.cell_netlist.proofs.ListLemmas.{list_all-at, list_all-from, all_pairs-at, all_pairs-from, is_some_with-at, first_of, decide_item}

is_back-at : (cell : Cell) → is_back cell ≡ true → IsBack cell
is_back-at (La a b out) e = absurd cc
is_back-at (Fa a b out) e = absurd cc
is_back-at (Split from left right) e = absurd cc
is_back-at (Droc Front preload feed q n) e = absurd cc
is_back-at (Droc Back preload feed q n) e = tt
is_back-at (Droc Const preload feed q n) e = absurd cc

is_back-from : (cell : Cell) → IsBack cell → is_back cell ≡ true
is_back-from (La a b out) h = absurd h
is_back-from (Fa a b out) h = absurd h
is_back-from (Split from left right) h = absurd h
is_back-from (Droc Front preload feed q n) h = absurd h
is_back-from (Droc Back preload feed q n) h = refl
is_back-from (Droc Const preload feed q n) h = absurd h

-- two state lines that are tested to name two cells
pub other_cells-at : (line other : StateLine) → name_other_cells line other ≡ true → line.cell.number ≡ other.cell.number → ⊥
other_cells-at line other e same = true≢false (sym e ∙ ap not (eq-eqb _ _ same))

other_cells-from : (line other : StateLine) → (line.cell.number ≡ other.cell.number → ⊥) → name_other_cells line other ≡ true
other_cells-from line other apart = elim (cases_Bool (line.cell.number == other.cell.number)) [
  | inl same ↦ absurd (apart (eqb-true _ _ same))
  | inr differ ↦ ap not differ
]

module _ (net : PlainNetlist) where
  pub names_back-at : (line : StateLine) → names_back net.cells line ≡ true → NamesBack net line
  names_back-at line e = let found = is_some_with-at is_back (slice_get net.cells line.cell.number) e in (found.0, found.1, is_back-at found.0 found.2)

  pub names_back-from : (line : StateLine) → NamesBack net line → names_back net.cells line ≡ true
  names_back-from line h = subst (λ (o : Option Cell). is_some_with is_back o ≡ true) (sym h.1) (is_back-from h.0 h.2)

  pub states-is : (are_states_right net ≡ true) ↔ AreStatesRight net
  states-is = (
    λ e. let both = and_parts _ _ e in record {
      backs = λ line among. names_back-at line (list_all-at (names_back net.cells) net.states both.0 line among);
      apart = λ k line at_line before. other_cells-at before.1 line (all_pairs-at name_other_cells net.states both.1 before.0 k before.1 line before.2 before.3 at_line) before.4;
    },
    λ right. and_from _ _
        (list_all-from (names_back net.cells) net.states (λ line among. names_back-from line (right.backs line among)))
        (all_pairs-from name_other_cells net.states (λ i j line other lt at_i at_j. other_cells-from line other (λ same. right.apart j other at_j (i, line, lt, at_i, same)))),
  )

  -- whether a state line names a back
  pub decide_back : (line : StateLine) → NamesBack net line ⊎ (NamesBack net line → ⊥)
  decide_back line = elim (cases_Bool (names_back net.cells line)) [
    | inl back ↦ inl (names_back-at line back)
    | inr loose ↦ inr (λ back. true≢false (sym (names_back-from line back) ∙ loose))
  ]

  -- the state line of this number names the same cell
  abbrev NamesSameCell : StateLine → ℕ → Type 0
  NamesSameCell line n = (earlier : StateLine) × (slice_get net.states n ≡ Some earlier) × (earlier.cell.number ≡ line.cell.number)

  decide_before : (k : ℕ) (line : StateLine) → IsNamedBefore net k line ⊎ (IsNamedBefore net k line → ⊥)
  decide_before k line =
      elim (first_of (NamesSameCell line) k
      (λ n lt before. decide_item net.states n (λ (earlier : StateLine). earlier.cell.number ≡ line.cell.number) (λ earlier among. cases_eq earlier.cell.number line.cell.number))) [
        | inl none ↦ inr (λ before. none before.0 before.2 (before.1, before.3, before.4))
        | inr found ↦ let its = found.2 in inl (found.0, its.0, found.1, its.1, its.2)
      ]

  -- whether a state line is loose
  pub decide_state : (k : ℕ) (line : StateLine)
      → ((NamesBack net line → ⊥) ⊎ IsNamedBefore net k line) ⊎ (((NamesBack net line → ⊥) ⊎ IsNamedBefore net k line) → ⊥)
  decide_state k line = elim (decide_back line) [
    | inr loose ↦ inl (inl loose)
    | inl back ↦ elim (decide_before k line) [
      | inl before ↦ inl (inr before)
      | inr first ↦ inr (λ broken. elim broken [ inl loose ↦ loose back | inr before ↦ first before ])
    ]
  ]
