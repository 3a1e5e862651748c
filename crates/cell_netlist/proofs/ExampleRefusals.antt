-- The refusals of the examples.
use Rattle.std.proofs.Common.{◌≡◌, ℕ, Bool, true, false, Some, [], ◌∷◌, slice_get, refl, inl, inr, arith, sym, subst}
use Rattle.pulse_ids.specs.Ids.{numbered}
use Rattle.pulse_ids.specs.declared.literals.Sign.TheVariants.{Pos}
use Rattle.cell_netlist.specs.declared.kinds.Role.TheVariants.{Front, Back, Const}
use Rattle.cell_netlist.specs.declared.kinds.Version.TheVariants.{Two}
use Rattle.cell_netlist.specs.declared.lines.Cell.{Cell}
use Rattle.cell_netlist.specs.declared.unsound.Unsound.TheVariants.{Loop, WrongPreload}
use Rattle.cell_netlist.specs.Netlists.{PlainNetlist, with_states}
use Rattle.pulse_ids.specs.Lists.{IsIn}
use Rattle.cell_netlist.specs.Sound.{Breaks, IsDrocOf, IsFrontTo, IsBackFrom}
use Rattle.cell_netlist.specs.ExampleNetlists.{rail, la, looped, droc, on, state, toggle, unused, plain}
use Rattle.cell_netlist.specs.ExampleRefusals.{BreaksAlone, RulesAreRefused, FirstIsRefused}
use Rattle.std.proofs.lemmas.Bool.{true≢false}
use Rattle.cell_netlist.proofs.StateDecisions.{names_back-from}
use Rattle.cell_netlist.proofs.Refusals.{first_refusal, grounded-known}

-- a back with no front, and a front with no back
loose_back : (preload : Bool) → IsFrontTo (plain 0 0 [] (droc Back false 0 (on 0) unused ∷ []) []) 0 preload → ⊥
loose_back preload front = go front.front front.among front.role
  where
    go : (cell : Cell) → IsIn cell (droc Back false 0 (on 0) unused ∷ []) → IsDrocOf cell Front preload front.feed → ⊥
    go cell (inl same) role = let its = subst (λ c. IsDrocOf c Front preload front.feed) (sym same) role in let r = its.0 in absurd cc
    go cell (inr none) role = none

loose_front : (link : ℕ) (preload : Bool) → IsBackFrom (plain 1 1 (rail 0 Pos 0 ∷ []) (droc Front true 0 (on 1) unused ∷ []) (rail 0 Pos 1 ∷ [])) link preload → ⊥
loose_front link preload back = go back.back back.among back.role
  where
    go : (cell : Cell) → IsIn cell (droc Front true 0 (on 1) unused ∷ []) → IsDrocOf cell Back preload link → ⊥
    go cell (inl same) role = let its = subst (λ c. IsDrocOf c Back preload link) (sym same) role in let r = its.0 in absurd cc
    go cell (inr none) role = none

-- the wire 1 is not grounded
pub looped_breaks : BreaksAlone looped (Loop (numbered 1))
looped_breaks = record {
  first = first_refusal _ _ (la 2 1 1, refl, (λ d. d), 1, inl refl, λ grounded. not_one (grounded-known looped (0 ∷ 2 ∷ 3 ∷ []) refl 1 grounded)) refl;
  others = refl;
}
  where
    not_one : IsIn {X = ℕ} 1 (0 ∷ 2 ∷ 3 ∷ []) → ⊥
    not_one (inl e) = absurd (omega arith)
    not_one (inr (inl e)) = absurd (omega arith)
    not_one (inr (inr (inl e))) = absurd (omega arith)
    not_one (inr (inr (inr none))) = none

-- a back and its front that both hold 0
pub clear_pair_breaks : (net : PlainNetlist) → slice_get net.cells 0 ≡ Some (droc Back false 4 (on 0) (on 1)) → IsIn (droc Front false 2 (on 4) unused) net.cells
    → Breaks net (WrongPreload (numbered 0))
clear_pair_breaks net back front = (
  droc Back false 4 (on 0) (on 1),
  back,
  4,
  false,
  false,
  (refl, refl, refl),
  record { front = droc Front false 2 (on 4) unused; among = front; feed = 2; role = (refl, refl, refl); q = refl },
  λ e. absurd cc,
)

pub rules_are_refused : RulesAreRefused
rules_are_refused = (
  record { first = first_refusal _ _ (omega arith, refl) refl; others = refl },
  record { first = first_refusal _ _ (omega arith) refl; others = refl },
  record { first = first_refusal _ _ (omega arith, refl) refl; others = refl },
  record { first = first_refusal _ _ (omega arith) refl; others = refl },
  record { first = first_refusal _ _ (rail 1 Pos 1, refl, omega arith) refl; others = refl },
  record { first = first_refusal _ _ (rail 1 Pos 1, refl, omega arith) refl; others = refl },
  record { first = first_refusal _ _ (0, rail 0 Pos 0, rail 0 Pos 1, omega arith, refl, refl, refl, refl) refl; others = refl },
  looped_breaks,
  record { first = first_refusal _ _ (droc Back false 0 (on 0) unused, refl, λ fits. loose_back fits.0 fits.1) refl; others = refl },
  record { first = first_refusal _ _ (droc Front true 0 (on 1) unused, refl, λ fits. loose_front fits.1 fits.3 fits.4) refl; others = refl },
  record { first = first_refusal _ _ (droc Const true 0 (on 1) unused, refl, λ fits. fits.1) refl; others = refl },
  record { first = first_refusal _ _ (clear_pair_breaks _ refl (inr (inr (inl refl)))) refl; others = refl },
  record { first = first_refusal _ _ (state 3 2, refl, inl (λ named. true≢false (sym (names_back-from (with_states Two (state 0 0 ∷ state 3 2 ∷ []) toggle) (state 3 2) named)))) refl; others = refl },
  record { first = first_refusal _ _ (state 0 3, refl, inl (λ named. true≢false (sym (names_back-from (with_states Two (state 0 3 ∷ []) toggle) (state 0 3) named)))) refl; others = refl },
  record { first = first_refusal _ _ (state 1 0, refl, inr (0, state 0 0, omega arith, refl, refl)) refl; others = refl },
)

pub first_is_refused : FirstIsRefused
first_is_refused = (
  first_refusal _ _ (omega arith, refl) refl,
  first_refusal _ _ (
    la 0 1 1,
    refl,
    (λ d. d),
    1,
    inl refl,
    λ grounded. not_one (grounded-known (plain 1 0 (rail 0 Pos 0 ∷ []) (la 0 1 1 ∷ []) []) (0 ∷ []) refl 1 grounded),
  ) refl,
  first_refusal _ _ (omega arith) refl,
)
  where
    not_one : IsIn {X = ℕ} 1 (0 ∷ []) → ⊥
    not_one (inl e) = absurd (omega arith)
    not_one (inr none) = none
