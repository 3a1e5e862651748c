-- Walks are longer by one cell at their end, or are that cell alone.
use Rattle.std.proofs.Common.{◌≡◌, ◌≤◌, ◌+◌, ◌⊎◌, ℕ, inl, inr, Some, List, [], ◌∷◌, ◌++◌, length, slice_get, refl, sym, ap, subst, ◌∙◌, arith}
use Rattle.std.specs.Prelude.{option_map, unwrap_or}
use Rattle.std.proofs.lemmas.List.Sums.{sum_by-append, sum_by-cons}
use Rattle.cell_netlist.specs.declared.lines.Cell.{Cell}
use Rattle.cell_netlist.specs.declared.lines.Cell.TheVariants.{La, Fa, Split, Droc}
use Rattle.cell_netlist.specs.Netlists.{PlainNetlist, IsDroc}
use Rattle.junction_report.specs.declared.depths.Measured.{Measured}
use Rattle.junction_report.specs.declared.depths.Measured.TheVariants.{Cells}
use Rattle.junction_report.specs.Walks.{IsPassing, Feeds, IsWalk, EndsIn, IsWalkTo, IsGreatest}
use Rattle.junction_report.specs.Depths.{share_of, measure_of}

module _ (net : PlainNetlist) where
  -- one cell is a walk
  pub alone : (c : ℕ) → IsPassing net c → IsWalkTo net c (c ∷ [])
  alone c p = ((p, tt, tt), refl)

  -- a cell that reads what the last one drives comes behind it
  pub append_last : (walk : List ℕ) (c d : ℕ) → IsWalkTo net c walk → Feeds net c d → IsWalkTo net d (walk ++ d ∷ [])
  append_last [] c d w f = absurd w.1
  append_last (x ∷ []) c d w f = ((w.0.0, subst (λ z. Feeds net z d) (sym w.1) f, (f.reader, tt, tt)), refl)
  append_last (x ∷ y ∷ rest) c d w f =
      let r = append_last (y ∷ rest) c d (w.0.2, w.1) f in ((w.0.0, w.0.1, r.0), r.1)

  -- a cell that the first one reads comes before it
  pub cons_walk : (x y : ℕ) (rest before after : List ℕ) (c : ℕ) → IsPassing net x → Feeds net x y → y ∷ rest ≡ before ++ after → IsWalkTo net c before
      → IsWalkTo net c (x ∷ before)
  cons_walk x y rest [] after c p f e w = absurd w.1
  cons_walk x y rest (z ∷ zs) after c p f e w = let s : y ≡ z = cc in ((p, subst (λ v. Feeds net x v) s f, w.0), w.1)

  -- what stands before the last cell of a walk
  abbrev pub IsSplit : List ℕ → ℕ → Type 0
  IsSplit walk d =
      (walk ≡ d ∷ []) ⊎ ((before : List ℕ) × (c : ℕ) × (walk ≡ before ++ d ∷ []) × (_ : IsWalkTo net c before) × Feeds net c d)

  pub split_last : (walk : List ℕ) (d : ℕ) → IsWalkTo net d walk → IsSplit walk d
  split_last [] d w = absurd w.1
  split_last (x ∷ []) d w = inl (ap (λ y. y ∷ []) w.1)
  split_last (x ∷ y ∷ rest) d w = go (split_last (y ∷ rest) d (w.0.2, w.1))
    where
      go : IsSplit (y ∷ rest) d → IsSplit (x ∷ y ∷ rest) d
      go (inl e) =
          let s : y ≡ d = cc in inr (x ∷ [], x, ap (λ l. x ∷ l) e, ((w.0.0, tt, tt), refl), subst (λ z. Feeds net x z) s w.0.1)
      go (inr r) = inr (x ∷ r.0, r.1, ap (λ l. x ∷ l) r.2, cons_walk x y rest r.0 (d ∷ []) r.1 w.0.0 w.0.1 r.2 r.3, r.4)

  -- the last cell of a walk is an LA, FA or splitter
  pub last_passes : (walk : List ℕ) (c : ℕ) → IsWalkTo net c walk → IsPassing net c
  last_passes [] c w = absurd w.1
  last_passes (x ∷ []) c w = subst (IsPassing net) w.1 w.0.0
  last_passes (x ∷ y ∷ rest) c w = last_passes (y ∷ rest) c (w.0.2, w.1)

  -- a walk has a last cell where it has any
  pub has_last : (x : ℕ) (rest : List ℕ) → (c : ℕ) × EndsIn (x ∷ rest) c
  has_last x [] = (x, refl)
  has_last x (y ∷ rest) = has_last y rest

  module _ (measured : Measured) where
    abbrev share_at : ℕ → ℕ
    share_at c = unwrap_or (option_map (share_of measured) (slice_get net.cells c)) 0

    pub share_is : (c : ℕ) (cell : Cell) → slice_get net.cells c ≡ Some cell → share_at c ≡ share_of measured cell
    share_is c cell at = ap (λ o. unwrap_or (option_map (share_of measured) o) 0) at

    -- the measure of a walk with one cell more
    pub measure_more : (walk : List ℕ) (c : ℕ) (cell : Cell) → slice_get net.cells c ≡ Some cell
        → measure_of net measured (walk ++ c ∷ []) ≡ measure_of net measured walk + share_of measured cell
    measure_more walk c cell at = let a = sum_by-append share_at walk (c ∷ []) in let s = share_is c cell at in omega arith

    pub measure_one : (c : ℕ) (cell : Cell) → slice_get net.cells c ≡ Some cell → measure_of net measured (c ∷ []) ≡ share_of measured cell
    measure_one c cell at = let s = share_is c cell at in omega arith

  -- the measure in cells is the length
  pub one_share : (cell : Cell) → (IsDroc cell → ⊥) → share_of Cells cell ≡ 1
  one_share (La a b out) k = refl
  one_share (Fa a b out) k = refl
  one_share (Split from left right) k = refl
  one_share (Droc role preload feed q n) k = absurd (k tt)

  pub length_is : (walk : List ℕ) → IsWalk net walk → measure_of net Cells walk ≡ length walk
  length_is [] w = refl
  length_is (c ∷ rest) w =
      let k = sum_by-cons (share_at Cells) c rest in let r = length_is rest w.2 in let s = share_is Cells c w.0.cell w.0.at in let o = one_share w.0.cell w.0.kind in omega arith

-- a greatest measure where another measure is the same
pub greatest_by : (Takes : List ℕ → Type 0) (f g : List ℕ → ℕ) (n : ℕ) → ((walk : List ℕ) → Takes walk → f walk ≡ g walk) → IsGreatest Takes f n → IsGreatest Takes g n
greatest_by Takes f g n same h = record {
  walk = h.walk;
  taken = h.taken;
  reached = sym (same h.walk h.taken) ∙ h.reached;
  most = λ other t. subst (λ k. k ≤ n) (same other t) (h.most other t);
}

-- there is one greatest measure
pub greatest_unique : (Takes : List ℕ → Type 0) (f : List ℕ → ℕ) (n m : ℕ) → IsGreatest Takes f n → IsGreatest Takes f m → n ≡ m
greatest_unique Takes f n m h k =
    let a = h.most k.walk k.taken in let b = k.most h.walk h.taken in let c = h.reached in let d = k.reached in omega arith
