-- One rail more in a demand.
use Rattle.std.proofs.Common.{◌≡◌, ℕ, zero, suc, ◌+◌, ◌<◌, ◌⊎◌, inl, inr, List, [], ◌∷◌, length, get_or, set, replicate, Bool, true, false, refl, sym, ◌∙◌, arith, true≢false, slice_get, Some}
use Rattle.std.proofs.lemmas.List.{get_or-set_same, get_or-set_other, length-set}
use Rattle.std.specs.Prelude.{slice_index_or}
use Rattle.std.proofs.lemmas.Bool.{cases_eq}
use Rattle.std.proofs.lemmas.Option.{get_or_from_slice_get}
use Rattle.pulse_ids.specs.declared.literals.Sign.{Sign}
use Rattle.pulse_ids.specs.declared.literals.Sign.TheVariants.{Pos, Neg}
use Rattle.rail_demand.specs.Demands.{PlainDemand, nodes_in, is_needed}
use Rattle.rail_demand.specs.Searching.{none_of, with_rail}
use Rattle.pulse_ids.specs.Lists.{zeros_in}

-- the bit that is given is the one that is read
pub bit_given : (bits : List Bool) (place : ℕ) (bit : Bool) → slice_get bits place ≡ Some bit → bit ≡ slice_index_or bits place false
bit_given bits place bit e = sym (get_or_from_slice_get bits place bit false e)

still_set : (bits : List Bool) (place other : ℕ) → place < length bits → get_or bits other false ≡ true → get_or (set bits place true) other false ≡ true
still_set bits place other lt h = elim (cases_eq other place) [
  | inl e ↦ rw e (get_or-set_same bits place true false lt)
  | inr ne ↦ get_or-set_other bits place other true false ne ∙ h
]

set_before : (bits : List Bool) (place other : ℕ) → get_or (set bits place true) other false ≡ true → (other ≡ place) ⊎ (get_or bits other false ≡ true)
set_before bits place other h = elim (cases_eq other place) [
  | inl e ↦ inl e
  | inr ne ↦ inr (sym (get_or-set_other bits place other true false ne) ∙ h)
]

one_zero_less : (bits : List Bool) (place : ℕ) → place < length bits → get_or bits place false ≡ false → zeros_in (set bits place true) + 1 ≡ zeros_in bits
one_zero_less [] place lt e = absurd (omega arith)
one_zero_less (true ∷ bits) zero lt e = absurd cc
one_zero_less (false ∷ bits) zero lt e = omega arith
one_zero_less (bit ∷ bits) (suc place) lt e = let r = one_zero_less bits place (omega arith) e in omega arith

pub zeros_in-replicate : (n : ℕ) → zeros_in (replicate n false) ≡ n
zeros_in-replicate zero = refl
zeros_in-replicate (suc n) = let r = zeros_in-replicate n in omega arith

none_set : (n place : ℕ) → get_or (replicate n false) place false ≡ false
none_set zero place = refl
none_set (suc n) zero = refl
none_set (suc n) (suc place) = none_set n place

pub none_needed : (n node : ℕ) (sign : Sign) → is_needed (none_of n) node sign ≡ true → ⊥
none_needed n node Pos h = true≢false (sym h ∙ none_set n node)
none_needed n node Neg h = true≢false (sym h ∙ none_set n node)

-- a demand keeps its width
pub nodes-with_rail : (demand : PlainDemand) (node : ℕ) (sign : Sign) → nodes_in (with_rail demand node sign) ≡ nodes_in demand
nodes-with_rail demand node Pos = length-set demand.positive node true
nodes-with_rail demand node Neg = refl

pub paired-with_rail : (demand : PlainDemand) (node : ℕ) (sign : Sign) → length demand.negative ≡ nodes_in demand
    → length (with_rail demand node sign).negative ≡ nodes_in (with_rail demand node sign)
paired-with_rail demand node Pos e = e ∙ sym (length-set demand.positive node true)
paired-with_rail demand node Neg e = length-set demand.negative node true ∙ e

-- the rail is needed now, and what was needed still is
pub needed_now : (demand : PlainDemand) (node : ℕ) (sign : Sign) → length demand.negative ≡ nodes_in demand → node < nodes_in demand → is_needed (with_rail demand node sign) node sign ≡ true
needed_now demand node Pos e lt = get_or-set_same demand.positive node true false lt
needed_now demand node Neg e lt = get_or-set_same demand.negative node true false (omega arith)

pub still_needed : (demand : PlainDemand) (node : ℕ) (sign : Sign) → length demand.negative ≡ nodes_in demand → node < nodes_in demand → (other : ℕ) (side : Sign)
    → is_needed demand other side ≡ true → is_needed (with_rail demand node sign) other side ≡ true
still_needed demand node Pos e lt other Pos h = still_set demand.positive node other lt h
still_needed demand node Pos e lt other Neg h = h
still_needed demand node Neg e lt other Pos h = h
still_needed demand node Neg e lt other Neg h = still_set demand.negative node other (omega arith) h

-- what is needed now is the rail, or was needed before
pub needed_before : (demand : PlainDemand) (node : ℕ) (sign : Sign) (other : ℕ) (side : Sign) → is_needed (with_rail demand node sign) other side ≡ true
    → ((node ≡ other) × (sign ≡ side)) ⊎ (is_needed demand other side ≡ true)
needed_before demand node Pos other Pos h = elim (set_before demand.positive node other h) [ inl e ↦ inl (sym e, refl) | inr k ↦ inr k ]
needed_before demand node Pos other Neg h = inr h
needed_before demand node Neg other Pos h = inr h
needed_before demand node Neg other Neg h = elim (set_before demand.negative node other h) [ inl e ↦ inl (sym e, refl) | inr k ↦ inr k ]

-- one rail less is left
pub one_left_less : (demand : PlainDemand) (node : ℕ) (sign : Sign) → length demand.negative ≡ nodes_in demand → node < nodes_in demand
    → is_needed demand node sign ≡ false → (zeros_in (with_rail demand node sign).positive + zeros_in (with_rail demand node sign).negative) + 1 ≡ zeros_in
    demand.positive + zeros_in demand.negative
one_left_less demand node Pos e lt h = let r = one_zero_less demand.positive node lt h in omega arith
one_left_less demand node Neg e lt h = let r = one_zero_less demand.negative node (omega arith) h in omega arith
