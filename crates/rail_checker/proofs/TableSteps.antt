-- Tables that are written cell by cell.
use Rattle.std.proofs.Common.{◌≡◌, ℕ, zero, suc, ◌+◌, ◌<◌, ◌⊎◌, inl, inr, List, [], ◌∷◌, length, drop, get_or, Option, Some, None, slice_get, refl, sym, ap, subst, ◌∙◌, arith}
use Rattle.std.proofs.lemmas.Bool.{cases_eq}
use Rattle.std.proofs.lemmas.List.{get_or-set_same, get_or-set_other, length-set}
use Rattle.pulse_ids.specs.Lists.{IsIn}
use Rattle.rail_checker.specs.Tables.{with_at, through}

-- a step for the item at a place, and then for all behind it
pub through_next : {T X : Type 0} (step : T → X → T) (xs : List X) (i : ℕ) (x : X) (table : T) → slice_get xs i ≡ Some x
    → through step (step table x) (drop (i + 1) xs) ≡ through step table (drop i xs)
through_next step [] i x table e = absurd cc
through_next step (y ∷ xs) zero x table e = let same : y ≡ x = cc in rw same refl
through_next step (y ∷ xs) (suc i) x table e =
    let next : suc i + 1 ≡ suc (i + 1) = omega arith in
    subst (λ k. through step (step table x) (drop k (y ∷ xs)) ≡ through step table (drop i xs)) (sym next) (through_next step xs i x table e)

pub at_width : {V : Type 0} (table : List V) (place : Option ℕ) (value : V) → length (with_at table place value) ≡ length table
at_width table None value = refl
at_width table (Some place) value = length-set table place value

pub at_place : {V : Type 0} (table : List V) (place : Option ℕ) (value d : V) (w : ℕ) → place ≡ Some w → w < length table → get_or (with_at table place value) w d ≡ value
at_place table None value d w e lt = absurd cc
at_place table (Some place) value d w e lt = let same : place ≡ w = cc in rw same (get_or-set_same table w value d lt)

pub off_place : {V : Type 0} (table : List V) (place : Option ℕ) (value d : V) (w : ℕ) → (place ≡ Some w → ⊥) → get_or (with_at table place value) w d ≡ get_or table w d
off_place table None value d w ne = refl
off_place table (Some place) value d w ne = get_or-set_other table place w value d (λ e. ne (ap Some (sym e)))

pub place_or_not : (place : Option ℕ) (w : ℕ) → (place ≡ Some w) ⊎ (place ≡ Some w → ⊥)
place_or_not None w = inr (λ e. cc)
place_or_not (Some place) w = elim (cases_eq place w) [ inl e ↦ inl (ap Some e) | inr ne ↦ inr (λ e. let same : place ≡ w = cc in ne same) ]

-- a table of values at keys
module _ {X V : Type 0} (d : V) (key : X → Option ℕ) (value : X → V) where
  abbrev put : List V → X → List V
  put table x = with_at table (key x) (value x)

  pub through_width : (xs : List X) (table : List V) → length (through put table xs) ≡ length table
  through_width [] table = refl
  through_width (x ∷ xs) table = through_width xs (put table x) ∙ at_width table (key x) (value x)

  -- what stands at a place is the value of an item of that key, or stood there before
  pub held : (xs : List X) (table : List V) (w : ℕ) (v : V) → w < length table → get_or (through put table xs) w d ≡ v
      → ((x : X) × IsIn x xs × (key x ≡ Some w) × (value x ≡ v)) ⊎ (get_or table w d ≡ v)
  held [] table w v lt e = inr e
  held (x ∷ xs) table w v lt e = go (held xs (put table x) w v (omega (arith, at_width table (key x) (value x))) e) (place_or_not (key x) w)
    where
      go : ((y : X) × IsIn y xs × (key y ≡ Some w) × (value y ≡ v)) ⊎ (get_or (put table x) w d ≡ v) → (key x ≡ Some w) ⊎ (key x ≡ Some w → ⊥)
          → ((y : X) × IsIn y (x ∷ xs) × (key y ≡ Some w) × (value y ≡ v)) ⊎ (get_or table w d ≡ v)
      go (inl r) k = inl (r.0, inr r.1, r.2, r.3)
      go (inr e) (inl k) = inl (x, inl refl, k, sym (at_place table (key x) (value x) d w k lt) ∙ e)
      go (inr e) (inr ne) = inr (sym (off_place table (key x) (value x) d w ne) ∙ e)

  -- at the key of an item stands the value of an item of that key
  pub found : (xs : List X) (table : List V) (w : ℕ) (x : X) → IsIn x xs → key x ≡ Some w → w < length table
      → (y : X) × IsIn y xs × (key y ≡ Some w) × (get_or (through put table xs) w d ≡ value y)
  found [] table w x i k lt = absurd i
  found (y ∷ xs) table w x (inr i) k lt =
      let r = found xs (put table y) w x i k (omega (arith, at_width table (key y) (value y))) in (r.0, inr r.1, r.2, r.3)
  found (y ∷ xs) table w x (inl same) k lt =
      let its : key y ≡ Some w = ap key same ∙ k in
      elim (held xs (put table y) w (get_or (through put (put table y) xs) w d) (omega (arith, at_width table (key y) (value y))) refl) [
        | inl r ↦ (r.0, inr r.1, r.2, sym r.3)
        | inr e ↦ (y, inl refl, its, sym e ∙ at_place table (key y) (value y) d w its lt)
      ]
