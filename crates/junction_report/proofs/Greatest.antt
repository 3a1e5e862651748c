-- The greatest measure of the walks that end in a cell, from those of the cells that drive its wires.
use Rattle.std.proofs.Common.{◌≡◌, ◌≤◌, ◌+◌, ◌⊎◌, ℕ, inl, inr, max, List, [], ◌∷◌, ◌++◌, refl, sym, ap, subst, arith}
use Rattle.std.proofs.lemmas.Bool.{cases_lt}
use Rattle.pulse_ids.specs.Lists.{IsIn}
use Rattle.cell_netlist.specs.declared.lines.Cell.{Cell}
use Rattle.cell_netlist.specs.declared.lines.Cell.TheVariants.{La, Fa, Split, Droc}
use Rattle.cell_netlist.specs.Netlists.{PlainNetlist, reads, IsDroc}
use Rattle.cell_netlist.specs.Wired.{IsWired}
use Rattle.junction_report.specs.declared.depths.Measured.{Measured}
use Rattle.junction_report.specs.Walks.{IsPassing, Drives, Feeds, IsWalkTo}
use Rattle.junction_report.specs.Depths.{share_of, measure_of, IsGreatestTo, entry_depth}
use Rattle.cell_orders.proofs.CallerLemmas.{same_cell, one_drives}
use Rattle.junction_report.proofs.Walking.{alone, append_last, split_last, measure_more, measure_one}

-- the greatest measure of the walks that lead into a wire: that of the cell that drives it, and 0 where none does
abbrev pub IsGreatestInto : PlainNetlist → Measured → ℕ → ℕ → Type 0
IsGreatestInto net measured wire greatest =
    ((c : ℕ) × (_ : Drives net c wire) × IsGreatestTo net measured c greatest) ⊎ (((c : ℕ) → Drives net c wire → ⊥) × (greatest ≡ 0))

-- the greatest measure of the walks that lead into any wire that a cell reads
pub record IsEntry (net : PlainNetlist) (measured : Measured) (cell : Cell) (greatest : ℕ) : Type 0 where
  pub wire : ℕ
  pub read : IsIn wire (reads cell)
  pub reached : IsGreatestInto net measured wire greatest
  pub most : (other : ℕ) → IsIn other (reads cell) → (n : ℕ) × (_ : IsGreatestInto net measured other n) × (n ≤ greatest)

-- the entry of a cell, where the values of its wires are greatest measures
pub entry_is : (net : PlainNetlist) (measured : Measured) (value : ℕ → ℕ) (cell : Cell) → (IsDroc cell → ⊥)
    → ((wire : ℕ) → IsIn wire (reads cell) → IsGreatestInto net measured wire (value wire)) → IsEntry net measured cell (entry_depth value cell)
entry_is net measured value cell kind right = record {
  wire = (some cell kind).0;
  read = (some cell kind).1;
  reached = subst (λ n. IsGreatestInto net measured (some cell kind).0 n) (sym (some cell kind).2) (right (some cell kind).0 (some cell kind).1);
  most = λ other i. (value other, right other i, below cell kind other i);
}
  where
    larger : (a b : ℕ) → ((max (value a) (value b) ≡ value a) ⊎ (max (value a) (value b) ≡ value b))
    larger a b = elim (cases_lt (value a) (value b)) [ inl lt ↦ inr (omega (arith, lt)) | inr ge ↦ inl (omega (arith, ge)) ]

    some : (cell : Cell) → (IsDroc cell → ⊥) → (wire : ℕ) × IsIn wire (reads cell) × (entry_depth value cell ≡ value wire)
    some (La a b out) k = elim (larger a.number b.number) [ inl e ↦ (a.number, inl refl, e) | inr e ↦ (b.number, inr (inl refl), e) ]
    some (Fa a b out) k = elim (larger a.number b.number) [ inl e ↦ (a.number, inl refl, e) | inr e ↦ (b.number, inr (inl refl), e) ]
    some (Split from left right) k = (from.number, inl refl, refl)
    some (Droc role preload feed q n) k = absurd (k tt)

    below : (cell : Cell) → (IsDroc cell → ⊥) → (other : ℕ) → IsIn other (reads cell) → value other ≤ entry_depth value cell
    below (La a b out) k other (inl e) = let s = ap value e in omega arith
    below (La a b out) k other (inr (inl e)) = let s = ap value e in omega arith
    below (La a b out) k other (inr (inr i)) = absurd i
    below (Fa a b out) k other (inl e) = let s = ap value e in omega arith
    below (Fa a b out) k other (inr (inl e)) = let s = ap value e in omega arith
    below (Fa a b out) k other (inr (inr i)) = absurd i
    below (Split from left right) k other (inl e) = let s = ap value e in omega arith
    below (Split from left right) k other (inr i) = absurd i
    below (Droc role preload feed q n) k other i = absurd (k tt)

module _ (net : PlainNetlist) (wired : IsWired net) (measured : Measured) (c : ℕ) (p : IsPassing net c) (n : ℕ) (entry : IsEntry net measured p.cell n) where
  -- what the cell adds
  abbrev share : ℕ
  share = share_of measured p.cell

  behind : IsGreatestInto net measured entry.wire n → (walk : List ℕ) × (_ : IsWalkTo net c walk) × (measure_of net measured walk ≡ share + n)
  behind (inl r) =
      let feeds : Feeds net r.0 c = record { reader = p; wire = entry.wire; read = entry.read; drives = r.1 } in
      let more = measure_more net measured r.2.walk c p.cell p.at in
      let e = r.2.reached in
      (r.2.walk ++ c ∷ [], append_last net r.2.walk r.0 c r.2.taken feeds, omega arith)
  behind (inr none) = let one = measure_one net measured c p.cell p.at in let z = none.1 in (c ∷ [], alone net c p, omega arith)

  -- no walk behind a cell that drives one of its wires has a greater measure
  led : (before : List ℕ) (b : ℕ) → IsWalkTo net b before → Feeds net b c → measure_of net measured before ≤ n
  led before b w f =
      let same = same_cell net c f.reader.at p.at in
      let its = entry.most f.wire (subst (λ x. IsIn f.wire (reads x)) same f.read) in
      elim its.1 [
        | inl r ↦
            let e = one_drives net wired f.wire r.0 b r.1 f.drives in
            let m = r.2.most before (subst (λ z. IsWalkTo net z before) (sym e) w) in omega (arith, its.2)
        | inr none ↦ absurd (none.0 b f.drives)
      ]

  most : (walk : List ℕ) → IsWalkTo net c walk → measure_of net measured walk ≤ share + n
  most walk w = elim (split_last net walk c w) [
    | inl e ↦ let one = measure_one net measured c p.cell p.at in let s = ap (measure_of net measured) e in omega arith
    | inr r ↦
        let m = led r.0 r.1 r.3 r.4 in
        let more = measure_more net measured r.0 c p.cell p.at in
        let s = ap (measure_of net measured) r.2 in omega arith
  ]

  pub greatest_next : IsGreatestTo net measured c (share_of measured p.cell + n)
  greatest_next = let b = behind entry.reached in record { walk = b.0; taken = b.1; reached = b.2; most = most }
