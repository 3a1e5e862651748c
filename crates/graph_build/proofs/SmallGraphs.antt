-- The graphs of a half adder and of a toggle flip-flop.
use Rattle.std.proofs.Common.{◌≡◌, ℕ, zero, suc, ◌<◌, inl, inr, List, [], ◌∷◌, Bool, true, false, not, ◌&&◌, ◌||◌, if◌then◌else◌, map, refl, sym, ◌∙◌, ap, subst, lit≤}
use Rattle.pulse_ids.specs.Ids.{NodeLit}
use Rattle.aig_core.specs.Examples.{half_adder}
use Rattle.aig_core.specs.Folds.{positive, complement}
use Rattle.aig_core.specs.Graphs.{PlainGraph, count_of}
use Rattle.aig_core.specs.Tidy.{IsTidy}
use Rattle.aig_core.specs.Values.{value_of}
use Rattle.source_machine.specs.Machines.{PlainEquation}
use Rattle.pulse_ids.specs.Lists.{IsIn, bit_at}
use Rattle.source_machine.specs.Runs.{equation_value, driven_nets, Agrees, output_bits, next_state}
use Rattle.source_machine.specs.Examples.{plain, inverse, toggle}
use Rattle.graph_build.specs.Built.{AreWithin, IsGraphOf}
use Rattle.graph_build.specs.Examples.{product, adder, adder_built, toggle_built, GraphsAreJudged}

-- the carry of two bits, whether both are 0, and the sum by both
abbrev carry_of : Bool → Bool → Bool
carry_of a b = if (a && (b && true)) || false then true else false

abbrev none_of : Bool → Bool → Bool
none_of a b = if (not a && (not b && true)) || false then true else false

abbrev sum_of : Bool → Bool → Bool
sum_of carry none = if (not carry && (not none && true)) || false then true else false

sum_value : (a b : Bool) → value_of half_adder [] (a ∷ b ∷ []) (positive 5) ≡ sum_of (carry_of a b) (none_of a b)
sum_value true true = refl
sum_value true false = refl
sum_value false true = refl
sum_value false false = refl

carry_value : (a b : Bool) → value_of half_adder [] (a ∷ b ∷ []) (positive 3) ≡ carry_of a b
carry_value true true = refl
carry_value true false = refl
carry_value false true = refl
carry_value false false = refl

adder_values : (state vector valuation : List Bool) → Agrees adder state vector valuation → map (value_of half_adder state vector) (positive 5 ∷ positive 3 ∷ []) ≡ output_bits adder valuation
adder_values state vector valuation agrees =
    subst (λ s. map (value_of half_adder s vector) (positive 5 ∷ positive 3 ∷ []) ≡ output_bits adder valuation) agrees.latches_agree
    (subst (λ v. map (value_of half_adder [] v) (positive 5 ∷ positive 3 ∷ []) ≡ output_bits adder valuation) agrees.inputs_agree both)
  where
    bit : ℕ → Bool
    bit = bit_at valuation

    carry : bit 6 ≡ carry_of (bit 1) (bit 2)
    carry = agrees.equations_agree (product 6 (plain 1 ∷ plain 2 ∷ [])) (inr (inl refl))

    none : bit 7 ≡ none_of (bit 1) (bit 2)
    none = agrees.equations_agree (product 7 (inverse 1 ∷ inverse 2 ∷ [])) (inr (inr (inl refl)))

    sum : bit 3 ≡ sum_of (bit 6) (bit 7)
    sum = agrees.equations_agree (product 3 (inverse 6 ∷ inverse 7 ∷ [])) (inl refl)

    sums : value_of half_adder [] (bit 1 ∷ bit 2 ∷ []) (positive 5) ≡ bit 3
    sums =
        sum_value (bit 1) (bit 2) ∙ sym (sum ∙ ap (λ c. sum_of c (bit 7)) carry ∙ ap (λ n. sum_of (carry_of (bit 1) (bit 2)) n) none)

    carries : value_of half_adder [] (bit 1 ∷ bit 2 ∷ []) (positive 3) ≡ bit 6
    carries = carry_value (bit 1) (bit 2) ∙ sym carry

    both : map (value_of half_adder [] (bit 1 ∷ bit 2 ∷ [])) (positive 5 ∷ positive 3 ∷ []) ≡ output_bits adder valuation
    both =
        ap (λ x. x ∷ value_of half_adder [] (bit 1 ∷ bit 2 ∷ []) (positive 3) ∷ []) sums ∙ ap (λ x. bit 3 ∷ x ∷ []) carries

two_within : (graph : PlainGraph) (one other : NodeLit) → one.id.number < count_of graph → other.id.number < count_of graph → AreWithin graph (one ∷ other ∷ [])
two_within graph one other p q zero literal e =
    let same : one ≡ literal = cc in subst (λ l. l.id.number < count_of graph) same p
two_within graph one other p q (suc zero) literal e =
    let same : other ≡ literal = cc in subst (λ l. l.id.number < count_of graph) same q
two_within graph one other p q (suc (suc place)) literal e = absurd cc

one_within : (graph : PlainGraph) (one : NodeLit) → one.id.number < count_of graph → AreWithin graph (one ∷ [])
one_within graph one p zero literal e =
    let same : one ≡ literal = cc in subst (λ l. l.id.number < count_of graph) same p
one_within graph one p (suc place) literal e = absurd cc

none_within : (graph : PlainGraph) → AreWithin graph []
none_within graph place literal e = absurd cc

adder_graph : IsTidy half_adder → IsGraphOf adder adder_built
adder_graph tidy = record {
  within = record {
    kept = record {
      tidy = tidy;
      inputs_fit = lit≤ tt;
      latches_fit = lit≤ tt;
      pairs_fit = lit≤ tt;
    };
    outputs_within = two_within half_adder (positive 5) (positive 3) (lit≤ tt) (lit≤ tt);
    nexts_within = none_within half_adder;
    outputs_fit = lit≤ tt;
    one_next_each = refl;
    one_init_each = refl;
  };
  inputs = refl;
  latches = refl;
  one_output_each = refl;
  output_values = adder_values;
  next_values = λ state vector valuation agrees. refl;
  first_bits = refl;
  small = lit≤ tt;
}

-- the bits of all nets where the inputs are 1 and 0
abbrev one_and_zero : List Bool
one_and_zero = false ∷ true ∷ false ∷ true ∷ false ∷ false ∷ false ∷ false ∷ []

one_and_zero_undriven : (net : ℕ) → (IsIn net (driven_nets adder) → ⊥) → bit_at one_and_zero net ≡ false
one_and_zero_undriven zero out = refl
one_and_zero_undriven (suc zero) out = absurd (out (inl refl))
one_and_zero_undriven (suc (suc zero)) out = refl
one_and_zero_undriven (suc (suc (suc zero))) out = absurd (out (inr (inr (inl refl))))
one_and_zero_undriven (suc (suc (suc (suc zero)))) out = refl
one_and_zero_undriven (suc (suc (suc (suc (suc zero))))) out = refl
one_and_zero_undriven (suc (suc (suc (suc (suc (suc zero)))))) out = refl
one_and_zero_undriven (suc (suc (suc (suc (suc (suc (suc zero))))))) out = refl
one_and_zero_undriven (suc (suc (suc (suc (suc (suc (suc (suc net)))))))) out = refl

one_and_zero_equations : (equation : PlainEquation) → IsIn equation adder.equations → bit_at one_and_zero equation.net ≡ equation_value (bit_at one_and_zero) equation
one_and_zero_equations equation (inl e) =
    subst (λ x. bit_at one_and_zero x.net ≡ equation_value (bit_at one_and_zero) x) e refl
one_and_zero_equations equation (inr (inl e)) =
    subst (λ x. bit_at one_and_zero x.net ≡ equation_value (bit_at one_and_zero) x) e refl
one_and_zero_equations equation (inr (inr (inl e))) =
    subst (λ x. bit_at one_and_zero x.net ≡ equation_value (bit_at one_and_zero) x) e refl
one_and_zero_equations equation (inr (inr (inr i))) = absurd i

one_and_zero_agrees : Agrees adder [] (true ∷ false ∷ []) one_and_zero
one_and_zero_agrees = record {
  width = refl;
  constant = refl;
  undriven = one_and_zero_undriven;
  inputs_agree = refl;
  latches_agree = refl;
  equations_agree = one_and_zero_equations;
}

exchanged : IsGraphOf adder (record adder_built { outputs = positive 3 ∷ positive 5 ∷ [] }) → ⊥
exchanged h =
    let e : false ∷ true ∷ [] ≡ true ∷ false ∷ [] = h.output_values [] (true ∷ false ∷ []) one_and_zero one_and_zero_agrees in
    absurd cc

abbrev toggle_graph : PlainGraph
toggle_graph = record { inputs = 0; latches = 1; pairs = [] }

toggle_tidy : IsTidy toggle_graph
toggle_tidy = record {
  each = λ place pair e. absurd cc;
  once = λ one other pair e f. absurd cc;
}

toggle_outputs : (state vector valuation : List Bool) → Agrees toggle state vector valuation → map (value_of toggle_graph state vector) (positive 1 ∷ []) ≡ output_bits toggle valuation
toggle_outputs state vector valuation agrees =
    subst (λ s. map (value_of toggle_graph s vector) (positive 1 ∷ []) ≡ output_bits toggle valuation) agrees.latches_agree refl

toggle_nexts : (state vector valuation : List Bool) → Agrees toggle state vector valuation → map (value_of toggle_graph state vector) (complement (positive 1) ∷ []) ≡ next_state toggle valuation
toggle_nexts state vector valuation agrees =
    subst (λ s. map (value_of toggle_graph s vector) (complement (positive 1) ∷ []) ≡ next_state toggle valuation) agrees.latches_agree refl

toggle_graph_is : IsGraphOf toggle toggle_built
toggle_graph_is = record {
  within = record {
    kept = record {
      tidy = toggle_tidy;
      inputs_fit = lit≤ tt;
      latches_fit = lit≤ tt;
      pairs_fit = lit≤ tt;
    };
    outputs_within = one_within toggle_graph (positive 1) (lit≤ tt);
    nexts_within = one_within toggle_graph (complement (positive 1)) (lit≤ tt);
    outputs_fit = lit≤ tt;
    one_next_each = refl;
    one_init_each = refl;
  };
  inputs = refl;
  latches = refl;
  one_output_each = refl;
  output_values = toggle_outputs;
  next_values = toggle_nexts;
  first_bits = refl;
  small = lit≤ tt;
}

zero_undriven : (net : ℕ) → (IsIn net (driven_nets toggle) → ⊥) → bit_at (false ∷ false ∷ []) net ≡ false
zero_undriven zero out = refl
zero_undriven (suc zero) out = refl
zero_undriven (suc (suc net)) out = refl

zero_agrees : Agrees toggle (false ∷ []) [] (false ∷ false ∷ [])
zero_agrees = record {
  width = refl;
  constant = refl;
  undriven = zero_undriven;
  inputs_agree = refl;
  latches_agree = refl;
  equations_agree = λ equation i. absurd i;
}

held : IsGraphOf toggle (record toggle_built { nexts = positive 1 ∷ [] }) → ⊥
held h =
    let e : false ∷ [] ≡ true ∷ [] = h.next_values (false ∷ []) [] (false ∷ false ∷ []) zero_agrees in absurd cc

begun : IsGraphOf toggle (record toggle_built { inits = true ∷ [] }) → ⊥
begun h = let e : true ∷ [] ≡ false ∷ [] = h.first_bits in absurd cc

pub graphs_are_judged : IsTidy half_adder → GraphsAreJudged
graphs_are_judged tidy = record {
  adder_is = adder_graph tidy;
  exchanged = exchanged;
  toggle_is = toggle_graph_is;
  held = held;
  begun = begun;
}
