-- A well founded machine that fits has a run on any vectors.
use Rattle.std.proofs.Common.{◌≡◌, ◌≢◌, ℕ, ◌+◌, ◌≤◌, ◌<◌, ◌⊎◌, inl, inr, List, [], ◌∷◌, ◌++◌, length, map, Bool, false, refl, sym, ◌∙◌, ap, subst, arith, length-append}
use Rattle.std.proofs.lemmas.List.Elements.{All-head, All-tail}
use Rattle.std.proofs.lemmas.List.{map-append, length-map}
use Rattle.std.proofs.lemmas.Bool.{cases_eq, cases_lt}
use Rattle.pulse_ids.specs.Lists.{IsIn, bit_at, occurrences}
use Rattle.pulse_ids.proofs.CallerLemmas.{is_in, IsIn-append, IsIn-left, IsIn-right, IsIn-flat_map, All-IsIn}
use Rattle.pulse_ids.proofs.CallerLemmasOnCounts.{occurrences-append}
use Rattle.source_machine.specs.Machines.{PlainEquation, PlainMachine}
use Rattle.source_machine.specs.Fitting.{Fits, EquationFits}
use Rattle.source_machine.specs.Runs.{literal_value, equation_value, driven_nets, Agrees, next_state, initial_state, IsRunFrom}
use Rattle.source_machine.specs.Grounding.{Grounded, of_constant, of_input, of_latch, of_equation, cube_nets, used_nets, IsWellFounded}
use Rattle.source_machine.specs.Laws.{RunExists, AreVectors}
use Rattle.source_machine.proofs.CubeValues.{equation_value-same, SameOn}
use Rattle.source_machine.proofs.CallerLemmasOnRanges.{driven_numbered}
use Rattle.source_machine.proofs.NetNumbers.{map-after}
use Rattle.source_machine.proofs.BitTables.{bit_beside, bit_beside-absent, map-on, map-bit_beside, append-split, values_below, length-values_below, bit_at-values_below, bit_at-values_past}
use Rattle.source_machine.proofs.GroundedValues.{extended, extended-is, value_by, same_equation, not_both, equation_net, one_equation}
use Rattle.source_machine.proofs.Uniqueness.{driven_grounded}

-- an equation drives no net 0
equation_not_zero : (machine : PlainMachine) → Fits machine → (equation : PlainEquation) → IsIn equation machine.equations → equation.net ≡ 0 → ⊥
equation_not_zero machine fits equation i e =
    let all = All-IsIn (EquationFits machine.nets) equation machine.equations fits.nets_fit.equations_fit i in
    let low : 1 ≤ equation.net = all.0.0 in omega arith

-- each way in which a net is grounded gives it the same value
pub same_value : (machine : PlainMachine) → Fits machine → IsWellFounded machine → (source : ℕ → Bool) → source 0 ≡ false → (net : ℕ) (g h : Grounded machine net)
    → value_by machine source net g ≡ value_by machine source net h
unfolding value_by
same_value machine fits founded source z _ of_constant of_constant = refl
same_value machine fits founded source z _ of_constant (of_input _ i) = sym z
same_value machine fits founded source z _ of_constant (of_latch _ i) = sym z
same_value machine fits founded source z _ of_constant (of_equation _ b j q below) =
    absurd (equation_not_zero machine fits b j q)
same_value machine fits founded source z _ (of_input _ i) of_constant = z
same_value machine fits founded source z _ (of_input _ i) (of_input _ j) = refl
same_value machine fits founded source z _ (of_input _ i) (of_latch _ j) = refl
same_value machine fits founded source z _ (of_input net i) (of_equation _ b j q below) =
    absurd (not_both machine founded net (inl i) (equation_net machine net b j q))
same_value machine fits founded source z _ (of_latch _ i) of_constant = z
same_value machine fits founded source z _ (of_latch _ i) (of_input _ j) = refl
same_value machine fits founded source z _ (of_latch _ i) (of_latch _ j) = refl
same_value machine fits founded source z _ (of_latch net i) (of_equation _ b j q below) =
    absurd (not_both machine founded net (inr i) (equation_net machine net b j q))
same_value machine fits founded source z _ (of_equation _ a i p above) of_constant =
    absurd (equation_not_zero machine fits a i p)
same_value machine fits founded source z _ (of_equation net a i p above) (of_input _ j) =
    absurd (not_both machine founded net (inl j) (equation_net machine net a i p))
same_value machine fits founded source z _ (of_equation net a i p above) (of_latch _ j) =
    absurd (not_both machine founded net (inr j) (equation_net machine net a i p))
same_value machine fits founded source z _ (of_equation net a i p above) (of_equation _ b j q below) =
    same_equation a b (one_equation machine founded net a b i j p q) (λ used k. value_by machine source used (above used k))
    (λ used l. value_by machine source used (below used l)) (λ used k l. same_value machine fits founded source z used (above used k) (below used l))

-- a grounded net is net 0 or driven
ground_driven : (machine : PlainMachine) (net : ℕ) → Grounded machine net → (net ≡ 0) ⊎ IsIn net (driven_nets machine)
ground_driven machine _ of_constant = inl refl
ground_driven machine _ (of_input net i) = inr (IsIn-left net machine.inputs _ i)
ground_driven machine _ (of_latch net i) =
    inr (IsIn-right net machine.inputs _ (IsIn-left net (map (λ latch. latch.out) machine.latches) _ i))
ground_driven machine _ (of_equation net a i p above) =
    inr (IsIn-right net machine.inputs _ (IsIn-right net (map (λ latch. latch.out) machine.latches) _ (equation_net machine net a i p)))

-- the valuation that agrees with a state and a vector
module _ (machine : PlainMachine) (fits : Fits machine) (founded : IsWellFounded machine) (state vector : List Bool) (wide : length vector ≡ length machine.inputs)
    (deep : length state ≡ length machine.latches) where
  abbrev outs : List ℕ
  outs = map (λ latch. latch.out) machine.latches

  -- the bit that the vector or the state gives a net
  abbrev source : ℕ → Bool
  source = bit_beside (machine.inputs ++ outs) (vector ++ state)

  source_constant : source 0 ≡ false
  source_constant = bit_beside-absent (machine.inputs ++ outs) (vector ++ state) 0 (λ i. absurd (out i))
    where
      low : IsIn 0 (driven_nets machine) → ⊥
      low i = let n = driven_numbered machine fits 0 i in let bad : 1 ≤ 0 = n.0 in omega arith

      out : IsIn 0 (machine.inputs ++ outs) → ⊥
      out i = elim (IsIn-append 0 machine.inputs outs i) [
        | inl j ↦ low (IsIn-left 0 machine.inputs _ j)
        | inr j ↦ low (IsIn-right 0 machine.inputs _ (IsIn-left 0 outs _ j))
      ]

  unfoldable bit_if : (net : ℕ) → IsIn net (driven_nets machine) ⊎ (IsIn net (driven_nets machine) → ⊥) → Bool
  bit_if net (inl i) = value_by machine source net (driven_grounded machine founded net i)
  bit_if net (inr out) = false

  unfoldable bit_for : ℕ → Bool
  bit_for net = bit_if net (is_in net (driven_nets machine))

  unfoldable valuation : List Bool
  valuation = values_below bit_for (machine.nets + 1)

  value_same : (net : ℕ) (g h : Grounded machine net) → value_by machine source net g ≡ value_by machine source net h
  value_same net g h = same_value machine fits founded source source_constant net g h

  bit_for-is : (net : ℕ) (g : Grounded machine net) → bit_for net ≡ value_by machine source net g
  unfolding bit_for bit_if value_by
  bit_for-is net g = go (is_in net (driven_nets machine))
    where
      none : (n : ℕ) (h : Grounded machine n) → n ≡ 0 → false ≡ value_by machine source n h
      none n h e = subst (λ k. (h : Grounded machine k) → false ≡ value_by machine source k h) (sym e) (λ h. value_same 0 of_constant h) h

      go : (c : IsIn net (driven_nets machine) ⊎ (IsIn net (driven_nets machine) → ⊥)) → bit_if net c ≡ value_by machine source net g
      go (inl i) = value_same net (driven_grounded machine founded net i) g
      go (inr out) = elim (ground_driven machine net g) [ inl e ↦ none net g e | inr i ↦ absurd (out i) ]

  bit_for-absent : (net : ℕ) → (IsIn net (driven_nets machine) → ⊥) → bit_for net ≡ false
  unfolding bit_for bit_if
  bit_for-absent net out = go (is_in net (driven_nets machine))
    where
      go : (c : IsIn net (driven_nets machine) ⊎ (IsIn net (driven_nets machine) → ⊥)) → bit_if net c ≡ false
      go (inl i) = absurd (out i)
      go (inr other) = refl

  in_range : (net : ℕ) → Grounded machine net → net ≤ machine.nets
  in_range net g = elim (ground_driven machine net g) [ inl e ↦ omega arith | inr i ↦ (driven_numbered machine fits net i).1 ]

  -- the bit of a grounded net in the valuation
  bit_at-is : (net : ℕ) (g : Grounded machine net) → bit_at valuation net ≡ value_by machine source net g
  unfolding valuation
  bit_at-is net g =
      let low = in_range net g in
      bit_at-values_below bit_for (machine.nets + 1) net (omega arith) ∙ bit_for-is net g

  bit_at-absent : (net : ℕ) → (IsIn net (driven_nets machine) → ⊥) → bit_at valuation net ≡ false
  unfolding valuation
  bit_at-absent net out = go (cases_lt net (machine.nets + 1))
    where
      go : (net < machine.nets + 1) ⊎ (machine.nets + 1 ≤ net) → bit_at (values_below bit_for (machine.nets + 1)) net ≡ false
      go (inl lt) = bit_at-values_below bit_for (machine.nets + 1) net lt ∙ bit_for-absent net out
      go (inr le) = bit_at-values_past bit_for (machine.nets + 1) net le

  -- each used net is grounded
  used_grounded : (net : ℕ) → IsIn net (used_nets machine) → Grounded machine net
  used_grounded net i = go (cases_eq net 0)
    where
      go : (net ≡ 0) ⊎ (net ≢ 0) → Grounded machine net
      go (inl e) = subst (Grounded machine) (sym e) of_constant
      go (inr ne) = driven_grounded machine founded net (founded.all_driven net ne i)

  sources_once : (net : ℕ) → occurrences net (machine.inputs ++ outs) ≤ 1
  sources_once net = once (founded.driven_once net)
    where
      all : occurrences net (driven_nets machine) ≡ occurrences net machine.inputs + (occurrences net outs + occurrences net (map (λ equation. equation.net) machine.equations))
      all = occurrences-append net machine.inputs _ ∙ ap (λ n. occurrences net machine.inputs + n) (occurrences-append net outs _)

      once : (2 ≤ occurrences net (driven_nets machine) → ⊥) → occurrences net (machine.inputs ++ outs) ≤ 1
      once twice = let e = occurrences-append net machine.inputs outs in let a = all in omega arith

  sources_agree : map source (machine.inputs ++ outs) ≡ vector ++ state
  sources_agree =
      let long : length (machine.inputs ++ outs) ≡ length (vector ++ state) =
      omega (arith, length-append machine.inputs outs, length-append vector state, length-map machine.latches (λ latch. latch.out)) in
      map-bit_beside (machine.inputs ++ outs) (vector ++ state) long sources_once

  parts_agree : (map source machine.inputs ≡ vector) × (map source outs ≡ state)
  parts_agree =
      append-split (map source machine.inputs) (map source outs) vector state (length-map machine.inputs source ∙ sym wide) (sym (map-append source machine.inputs outs) ∙ sources_agree)

  input_bit : SameOn machine.inputs (bit_at valuation) source
  unfolding value_by
  input_bit net i = bit_at-is net (of_input net i)

  out_bit : SameOn outs (bit_at valuation) source
  unfolding value_by
  out_bit net i = bit_at-is net (of_latch net i)

  equation_used : (equation : PlainEquation) → IsIn equation machine.equations → (used : ℕ) → IsIn used (cube_nets equation) → IsIn used (used_nets machine)
  equation_used equation i used j = IsIn-left used _ _ (IsIn-flat_map cube_nets used equation machine.equations i j)

  equation_bit : (equation : PlainEquation) → IsIn equation machine.equations → bit_at valuation equation.net ≡ equation_value (bit_at valuation) equation
  unfolding value_by
  equation_bit equation i =
      bit_at-is equation.net (of_equation equation.net equation i refl below) ∙ equation_value-same
      (extended (cube_nets equation) (λ used j. value_by machine source used (below used j))) (bit_at valuation) equation
      (λ used j. extended-is (cube_nets equation) (λ n k. value_by machine source n (below n k)) used (bit_at valuation used) j (λ k. sym (bit_at-is used (below used k))))
    where
      below : (used : ℕ) → IsIn used (cube_nets equation) → Grounded machine used
      below used j = used_grounded used (equation_used equation i used j)

  valuation_agrees : Agrees machine state vector valuation
  unfolding valuation value_by
  valuation_agrees = record {
    width = length-values_below bit_for (machine.nets + 1);
    constant = bit_at-is 0 of_constant;
    undriven = bit_at-absent;
    inputs_agree = map-on (bit_at valuation) source machine.inputs input_bit ∙ parts_agree.0;
    latches_agree = sym (map-after (λ latch. latch.out) (bit_at valuation) machine.latches) ∙ (map-on (bit_at valuation) source outs out_bit ∙ parts_agree.1);
    equations_agree = equation_bit;
  }

-- some valuation agrees with a state and a vector of the machine's lengths
pub some_valuation : (machine : PlainMachine) → Fits machine → IsWellFounded machine → (state vector : List Bool) → length vector ≡ length machine.inputs
    → length state ≡ length machine.latches → (v : List Bool) × Agrees machine state vector v
some_valuation machine fits founded state vector wide deep =
    (valuation machine fits founded state vector wide deep, valuation_agrees machine fits founded state vector wide deep)

run_from : (machine : PlainMachine) → Fits machine → IsWellFounded machine → (state : List Bool) → length state ≡ length machine.latches → (vectors : List (List Bool))
    → AreVectors machine vectors → (valuations : List (List Bool)) × IsRunFrom machine state vectors valuations
run_from machine fits founded state deep [] wide = ([], tt)
run_from machine fits founded state deep (vector ∷ vectors) wide =
    let first : length vector ≡ length machine.inputs = All-head (λ v. length v ≡ length machine.inputs) vector vectors wide in
    let v = valuation machine fits founded state vector first deep in
    let rest = run_from machine fits founded (next_state machine v) (length-map machine.latches (λ latch. literal_value (bit_at v) latch.next)) vectors
    (All-tail (λ u. length u ≡ length machine.inputs) vector vectors wide) in (v ∷ rest.0, (valuation_agrees machine fits founded state vector first deep, rest.1))

pub run_exists : RunExists
run_exists machine fits founded vectors wide =
    run_from machine fits founded (initial_state machine) (length-map machine.latches (λ latch. latch.init)) vectors wide
