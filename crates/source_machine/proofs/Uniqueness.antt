-- A well founded machine has at most one run on any vectors.
use Rattle.std.proofs.Common.{◌≡◌, ℕ, ◌⊎◌, inl, inr, List, [], ◌∷◌, ◌++◌, map, Bool, refl, sym, ◌∙◌, subst}
use Rattle.pulse_ids.specs.Lists.{IsIn, bit_at}
use Rattle.pulse_ids.proofs.CallerLemmas.{IsIn-append, is_in}
use Rattle.source_machine.specs.Machines.{PlainMachine}
use Rattle.source_machine.specs.Runs.{driven_nets, Agrees, next_state, initial_state, IsRunFrom}
use Rattle.source_machine.specs.Grounding.{Grounded, of_constant, of_input, of_latch, of_equation, IsWellFounded}
use Rattle.source_machine.specs.Laws.{RunsAreEqual}
use Rattle.source_machine.proofs.CubeValues.{equation_value-same, map-same_at, map-same_on, same_bits}

-- what is driven is grounded
pub driven_grounded : (machine : PlainMachine) → IsWellFounded machine → (net : ℕ) → IsIn net (driven_nets machine) → Grounded machine net
driven_grounded machine founded net h = ends (IsIn-append net machine.inputs _ h)
  where
    inside : IsIn net (map (λ latch. latch.out) machine.latches) ⊎ IsIn net (map (λ equation. equation.net) machine.equations) → Grounded machine net
    inside (inl i) = of_latch net i
    inside (inr i) = founded.all_grounded net i

    ends : IsIn net machine.inputs ⊎ IsIn net (map (λ latch. latch.out) machine.latches ++ map (λ equation. equation.net) machine.equations) → Grounded machine net
    ends (inl i) = of_input net i
    ends (inr i) = inside (IsIn-append net (map (λ latch. latch.out) machine.latches) _ i)

-- two valuations that agree with one state and one vector agree on each grounded net
pub same_grounded : (machine : PlainMachine) (state vector v w : List Bool) → Agrees machine state vector v → Agrees machine state vector w → (net : ℕ)
    → Grounded machine net → bit_at v net ≡ bit_at w net
same_grounded machine state vector v w a b _ of_constant = a.constant ∙ sym b.constant
same_grounded machine state vector v w a b _ (of_input net i) =
    map-same_on (bit_at v) (bit_at w) machine.inputs (a.inputs_agree ∙ sym b.inputs_agree) net i
same_grounded machine state vector v w a b _ (of_latch net i) =
    map-same_at (λ latch. latch.out) (bit_at v) (bit_at w) machine.latches (a.latches_agree ∙ sym b.latches_agree) net i
same_grounded machine state vector v w a b _ (of_equation net equation i e below) =
    subst (λ n. bit_at v n ≡ bit_at w n) e
    (a.equations_agree equation i ∙ equation_value-same (bit_at v) (bit_at w) equation (λ used j. same_grounded machine state vector v w a b used (below used j)) ∙ sym
    (b.equations_agree equation i))

pub same_valuation : (machine : PlainMachine) → IsWellFounded machine → (state vector v w : List Bool) → Agrees machine state vector v → Agrees machine state vector w → v ≡ w
same_valuation machine founded state vector v w a b =
    same_bits v w (a.width ∙ sym b.width) (λ net. here net (is_in net (driven_nets machine)))
  where
    here : (net : ℕ) → IsIn net (driven_nets machine) ⊎ (IsIn net (driven_nets machine) → ⊥) → bit_at v net ≡ bit_at w net
    here net (inl i) = same_grounded machine state vector v w a b net (driven_grounded machine founded net i)
    here net (inr out) = a.undriven net out ∙ sym (b.undriven net out)

same_run : (machine : PlainMachine) → IsWellFounded machine → (state : List Bool) (vectors one other : List (List Bool)) → IsRunFrom machine state vectors one
    → IsRunFrom machine state vectors other → one ≡ other
same_run machine founded state [] [] [] r s = refl
same_run machine founded state [] [] (w ∷ other) r s = absurd s
same_run machine founded state [] (v ∷ one) other r s = absurd r
same_run machine founded state (vector ∷ vectors) [] other r s = absurd r
same_run machine founded state (vector ∷ vectors) (v ∷ one) [] r s = absurd s
same_run machine founded state (vector ∷ vectors) (v ∷ one) (w ∷ other) r s =
    let first : v ≡ w = same_valuation machine founded state vector v w r.0 s.0 in
    let rest : IsRunFrom machine (next_state machine v) vectors other = subst (λ u. IsRunFrom machine (next_state machine u) vectors other) (sym first) s.1 in
    let after : one ≡ other = same_run machine founded (next_state machine v) vectors one other r.1 rest in cc

pub runs_are_equal : RunsAreEqual
runs_are_equal machine fits founded vectors wide one other r s = same_run machine founded (initial_state machine) vectors one other r s
