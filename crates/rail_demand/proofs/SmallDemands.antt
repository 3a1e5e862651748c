-- The needed rails of small graphs.
use Rattle.std.proofs.Common.{◌≡◌, ℕ, zero, suc, slice_get, Some, true, refl, subst, arith, Contains}
use Rattle.pulse_ids.specs.Ids.{NodeLit}
use Rattle.pulse_ids.specs.declared.literals.Sign.{Sign}
use Rattle.pulse_ids.specs.declared.literals.Sign.TheVariants.{Pos, Neg}
use Rattle.cell_netlist.specs.declared.kinds.Ask.{Ask}
use Rattle.cell_netlist.specs.declared.kinds.Ask.TheVariants as asks
use Rattle.cell_netlist.specs.Asked.{signs_of}
use Rattle.aig_core.specs.declared.nodes.Node.TheVariants.{Latch, And}
use Rattle.aig_core.specs.Examples.{half_adder}
use Rattle.aig_core.specs.Folds.{positive, complement, zero_literal, one_literal}
use Rattle.aig_core.specs.Graphs.{nodes_of}
use Rattle.graph_build.specs.Examples.{adder_built}
use Rattle.pulse_ids.specs.Literals.{rail_sign}
use Rattle.rail_demand.specs.Rails.{literal_rail}
use Rattle.rail_demand.specs.Demands.{nodes_in, is_needed, Needed, of_output, of_user, NeedsAtOnce, of_low, of_high, of_next, IsDemand}
use Rattle.rail_demand.specs.Examples.{adder_rails, chain_built, chain_rails, one_built, one_rails, RailsAreJudged}
use Rattle.rail_demand.proofs.FoundRails.{IsFound}
use Rattle.rail_demand.proofs.LeastSet.{Needed-least}

-- both literals of each conjunction of the half adder have their rails
adder_literals : (user : ℕ) (sign : Sign) (low high : NodeLit) → slice_get (nodes_of half_adder) user ≡ Some (And low high) → is_needed adder_rails user sign ≡ true
    → IsFound adder_rails (literal_rail low sign) × IsFound adder_rails (literal_rail high sign)
adder_literals zero sign low high e k = absurd cc
adder_literals (suc zero) sign low high e k = absurd cc
adder_literals (suc (suc zero)) sign low high e k = absurd cc
adder_literals (suc (suc (suc zero))) sign low high e k =
    let node : Some (And (positive 1) (positive 2)) ≡ Some (And low high) = e in
    let l : positive 1 ≡ low = cc in
    let h : positive 2 ≡ high = cc in
    (subst (λ x. IsFound adder_rails (literal_rail x sign)) l (inputs sign), subst (λ x. IsFound adder_rails (literal_rail x sign)) h (inputs sign))
  where
    inputs : (s : Sign) → is_needed adder_rails 1 s ≡ true
    inputs Pos = refl
    inputs Neg = refl
adder_literals (suc (suc (suc (suc zero)))) Pos low high e k = absurd cc
adder_literals (suc (suc (suc (suc zero)))) Neg low high e k =
    let node : Some (And (complement (positive 1)) (complement (positive 2))) ≡ Some (And low high) = e in
    let l : complement (positive 1) ≡ low = cc in
    let h : complement (positive 2) ≡ high = cc in
    (subst (λ x. IsFound adder_rails (literal_rail x Neg)) l refl, subst (λ x. IsFound adder_rails (literal_rail x Neg)) h refl)
adder_literals (suc (suc (suc (suc (suc zero))))) Pos low high e k =
    let node : Some (And (complement (positive 3)) (complement (positive 4))) ≡ Some (And low high) = e in
    let l : complement (positive 3) ≡ low = cc in
    let h : complement (positive 4) ≡ high = cc in
    (subst (λ x. IsFound adder_rails (literal_rail x Pos)) l refl, subst (λ x. IsFound adder_rails (literal_rail x Pos)) h refl)
adder_literals (suc (suc (suc (suc (suc zero))))) Neg low high e k = absurd cc
adder_literals (suc (suc (suc (suc (suc (suc n)))))) sign low high e k = absurd cc

adder_step : (user : ℕ) (sign : Sign) → is_needed adder_rails user sign ≡ true → (node : ℕ) (side : Sign) → NeedsAtOnce adder_built user sign node side → is_needed adder_rails node side ≡ true
adder_step user sign k node side (of_low low high e r) =
    subst (λ s. is_needed adder_rails node s ≡ true) r.1 (subst (λ n. is_needed adder_rails n (rail_sign low sign) ≡ true) r.0 (adder_literals user sign low high e k).0)
adder_step user sign k node side (of_high low high e r) =
    subst (λ s. is_needed adder_rails node s ≡ true) r.1 (subst (λ n. is_needed adder_rails n (rail_sign high sign) ≡ true) r.0 (adder_literals user sign low high e k).1)
adder_step user sign k node side (of_next latch next e n r) = absurd cc

-- the only asked sign
only_positive : (sign : Sign) → Contains (signs_of asks.Pos) sign → Pos ≡ sign
only_positive sign (zero, lt, e) = e
only_positive sign (suc k, lt, e) = absurd (omega arith)

adder_outputs : (port : ℕ) (literal : NodeLit) → slice_get adder_built.outputs port ≡ Some literal → (sign : Sign) → Contains (signs_of asks.Pos) sign
    → is_needed adder_rails literal.id.number (rail_sign literal sign) ≡ true
adder_outputs zero literal e sign c =
    let item : Some (positive 5) ≡ Some literal = e in
    let same : positive 5 ≡ literal = cc in
    subst (λ s. is_needed adder_rails literal.id.number (rail_sign literal s) ≡ true) (only_positive sign c) (subst (λ l. IsFound adder_rails (literal_rail l Pos)) same refl)
adder_outputs (suc zero) literal e sign c =
    let item : Some (positive 3) ≡ Some literal = e in
    let same : positive 3 ≡ literal = cc in
    subst (λ s. is_needed adder_rails literal.id.number (rail_sign literal s) ≡ true) (only_positive sign c) (subst (λ l. IsFound adder_rails (literal_rail l Pos)) same refl)
adder_outputs (suc (suc n)) literal e sign c = absurd cc

sum_rail : Needed adder_built asks.Pos 5 Pos
sum_rail = of_output 5 Pos 0 (positive 5) Pos refl (0, omega arith, refl) (refl, refl)

carry_rail : Needed adder_built asks.Pos 3 Pos
carry_rail = of_output 3 Pos 1 (positive 3) Pos refl (0, omega arith, refl) (refl, refl)

carry_complement : Needed adder_built asks.Pos 3 Neg
carry_complement = of_user 3 Neg 5 Pos sum_rail (of_low (complement (positive 3)) (complement (positive 4)) refl (refl, refl))

both_complement : Needed adder_built asks.Pos 4 Neg
both_complement = of_user 4 Neg 5 Pos sum_rail (of_high (complement (positive 3)) (complement (positive 4)) refl (refl, refl))

adder_needs : (node : ℕ) (sign : Sign) → is_needed adder_rails node sign ≡ true → Needed adder_built asks.Pos node sign
adder_needs zero Pos k = absurd cc
adder_needs zero Neg k = absurd cc
adder_needs (suc zero) Pos k = of_user 1 Pos 3 Pos carry_rail (of_low (positive 1) (positive 2) refl (refl, refl))
adder_needs (suc zero) Neg k = of_user 1 Neg 3 Neg carry_complement (of_low (positive 1) (positive 2) refl (refl, refl))
adder_needs (suc (suc zero)) Pos k = of_user 2 Pos 3 Pos carry_rail (of_high (positive 1) (positive 2) refl (refl, refl))
adder_needs (suc (suc zero)) Neg k = of_user 2 Neg 3 Neg carry_complement (of_high (positive 1) (positive 2) refl (refl, refl))
adder_needs (suc (suc (suc zero))) Pos k = carry_rail
adder_needs (suc (suc (suc zero))) Neg k = carry_complement
adder_needs (suc (suc (suc (suc zero)))) Pos k = absurd cc
adder_needs (suc (suc (suc (suc zero)))) Neg k = both_complement
adder_needs (suc (suc (suc (suc (suc zero))))) Pos k = sum_rail
adder_needs (suc (suc (suc (suc (suc zero))))) Neg k = absurd cc
adder_needs (suc (suc (suc (suc (suc (suc n)))))) Pos k = absurd cc
adder_needs (suc (suc (suc (suc (suc (suc n)))))) Neg k = absurd cc

adder_is : IsDemand adder_built asks.Pos adder_rails
adder_is = record {
  nodes = refl;
  exact = λ node lt sign. (adder_needs node sign, Needed-least adder_built asks.Pos (λ n s. is_needed adder_rails n s ≡ true) adder_outputs adder_step node sign);
}

-- the literal that a latch of the chain holds next has its positive rail
chain_next : (user : ℕ) (sign : Sign) (latch : ℕ) (next : NodeLit) → slice_get (nodes_of chain_built.graph) user ≡ Some (Latch latch)
    → slice_get chain_built.nexts latch ≡ Some next → is_needed chain_rails user sign ≡ true → IsFound chain_rails (literal_rail next Pos)
chain_next zero sign latch next e n k = absurd cc
chain_next (suc zero) sign zero next e n k =
    let item : Some zero_literal ≡ Some next = n in
    let same : zero_literal ≡ next = cc in subst (λ l. IsFound chain_rails (literal_rail l Pos)) same refl
chain_next (suc zero) sign (suc latch) next e n k =
    let node : Some (Latch 0) ≡ Some (Latch (suc latch)) = e in
    let number : 0 ≡ suc latch = cc in absurd (omega (arith, number))
chain_next (suc (suc zero)) sign zero next e n k =
    let node : Some (Latch 1) ≡ Some (Latch 0) = e in
    let number : suc zero ≡ zero = cc in absurd (omega (arith, number))
chain_next (suc (suc zero)) sign (suc zero) next e n k =
    let item : Some (positive 1) ≡ Some next = n in
    let same : positive 1 ≡ next = cc in subst (λ l. IsFound chain_rails (literal_rail l Pos)) same refl
chain_next (suc (suc zero)) sign (suc (suc latch)) next e n k =
    let node : Some (Latch 1) ≡ Some (Latch (suc (suc latch))) = e in
    let number : 1 ≡ suc (suc latch) = cc in absurd (omega (arith, number))
chain_next (suc (suc (suc zero))) Pos latch next e n k = absurd cc
chain_next (suc (suc (suc zero))) Neg latch next e n k = absurd cc
chain_next (suc (suc (suc (suc m)))) sign latch next e n k = absurd cc

no_conjunction : (user : ℕ) (low high : NodeLit) → slice_get (nodes_of chain_built.graph) user ≡ Some (And low high) → ⊥
no_conjunction zero low high e = absurd cc
no_conjunction (suc zero) low high e = absurd cc
no_conjunction (suc (suc zero)) low high e = absurd cc
no_conjunction (suc (suc (suc zero))) low high e = absurd cc
no_conjunction (suc (suc (suc (suc m)))) low high e = absurd cc

chain_step : (user : ℕ) (sign : Sign) → is_needed chain_rails user sign ≡ true → (node : ℕ) (side : Sign) → NeedsAtOnce chain_built user sign node side → is_needed chain_rails node side ≡ true
chain_step user sign k node side (of_low low high e r) = absurd (no_conjunction user low high e)
chain_step user sign k node side (of_high low high e r) = absurd (no_conjunction user low high e)
chain_step user sign k node side (of_next latch next e n r) =
    subst (λ s. is_needed chain_rails node s ≡ true) r.1 (subst (λ m. is_needed chain_rails m (rail_sign next Pos) ≡ true) r.0 (chain_next user sign latch next e n k))

chain_outputs : (port : ℕ) (literal : NodeLit) → slice_get chain_built.outputs port ≡ Some literal → (sign : Sign) → Contains (signs_of asks.Pos) sign
    → is_needed chain_rails literal.id.number (rail_sign literal sign) ≡ true
chain_outputs zero literal e sign c =
    let item : Some (complement (positive 2)) ≡ Some literal = e in
    let same : complement (positive 2) ≡ literal = cc in
    subst (λ s. is_needed chain_rails literal.id.number (rail_sign literal s) ≡ true) (only_positive sign c) (subst (λ l. IsFound chain_rails (literal_rail l Pos)) same refl)
chain_outputs (suc n) literal e sign c = absurd cc

second_rail : Needed chain_built asks.Pos 2 Neg
second_rail = of_output 2 Neg 0 (complement (positive 2)) Pos refl (0, omega arith, refl) (refl, refl)

first_rail : Needed chain_built asks.Pos 1 Pos
first_rail = of_user 1 Pos 2 Neg second_rail (of_next 1 (positive 1) refl refl (refl, refl))

chain_needs : (node : ℕ) (sign : Sign) → is_needed chain_rails node sign ≡ true → Needed chain_built asks.Pos node sign
chain_needs zero Pos k = of_user 0 Pos 1 Pos first_rail (of_next 0 zero_literal refl refl (refl, refl))
chain_needs zero Neg k = absurd cc
chain_needs (suc zero) Pos k = first_rail
chain_needs (suc zero) Neg k = absurd cc
chain_needs (suc (suc zero)) Pos k = absurd cc
chain_needs (suc (suc zero)) Neg k = second_rail
chain_needs (suc (suc (suc zero))) Pos k = absurd cc
chain_needs (suc (suc (suc zero))) Neg k = absurd cc
chain_needs (suc (suc (suc (suc n)))) Pos k = absurd cc
chain_needs (suc (suc (suc (suc n)))) Neg k = absurd cc

chain_is : IsDemand chain_built asks.Pos chain_rails
chain_is = record {
  nodes = refl;
  exact = λ node lt sign. (chain_needs node sign, Needed-least chain_built asks.Pos (λ n s. is_needed chain_rails n s ≡ true) chain_outputs chain_step node sign);
}

-- the only asked sign
only_negative : (sign : Sign) → Contains (signs_of asks.Neg) sign → Neg ≡ sign
only_negative sign (zero, lt, e) = e
only_negative sign (suc k, lt, e) = absurd (omega arith)

one_asked : (ask : Ask) (sign : Sign) → Contains (signs_of ask) sign → IsFound (one_rails ask) (literal_rail one_literal sign)
one_asked asks.Pos sign c = subst (λ s. IsFound (one_rails asks.Pos) (literal_rail one_literal s)) (only_positive sign c) refl
one_asked asks.Neg sign c = subst (λ s. IsFound (one_rails asks.Neg) (literal_rail one_literal s)) (only_negative sign c) refl
one_asked asks.Both Pos c = refl
one_asked asks.Both Neg c = refl

one_outputs : (ask : Ask) (port : ℕ) (literal : NodeLit) → slice_get one_built.outputs port ≡ Some literal → (sign : Sign) → Contains (signs_of ask) sign
    → is_needed (one_rails ask) literal.id.number (rail_sign literal sign) ≡ true
one_outputs ask zero literal e sign c =
    let item : Some one_literal ≡ Some literal = e in
    let same : one_literal ≡ literal = cc in subst (λ l. IsFound (one_rails ask) (literal_rail l sign)) same (one_asked ask sign c)
one_outputs ask (suc n) literal e sign c = absurd cc

only_constant : (user : ℕ) (low high : NodeLit) → slice_get (nodes_of one_built.graph) user ≡ Some (And low high) → ⊥
only_constant zero low high e = absurd cc
only_constant (suc n) low high e = absurd cc

one_step : (ask : Ask) (user : ℕ) (sign : Sign) → is_needed (one_rails ask) user sign ≡ true → (node : ℕ) (side : Sign) → NeedsAtOnce one_built user sign node side
    → is_needed (one_rails ask) node side ≡ true
one_step ask user sign k node side (of_low low high e r) = absurd (only_constant user low high e)
one_step ask user sign k node side (of_high low high e r) = absurd (only_constant user low high e)
one_step ask user sign k node side (of_next latch next e n r) = absurd cc

one_needs : (ask : Ask) (node : ℕ) (sign : Sign) → is_needed (one_rails ask) node sign ≡ true → Needed one_built ask node sign
one_needs asks.Pos zero Pos k = absurd cc
one_needs asks.Pos zero Neg k = of_output 0 Neg 0 one_literal Pos refl (0, omega arith, refl) (refl, refl)
one_needs asks.Neg zero Pos k = of_output 0 Pos 0 one_literal Neg refl (0, omega arith, refl) (refl, refl)
one_needs asks.Neg zero Neg k = absurd cc
one_needs asks.Both zero Pos k = of_output 0 Pos 0 one_literal Neg refl (1, omega arith, refl) (refl, refl)
one_needs asks.Both zero Neg k = of_output 0 Neg 0 one_literal Pos refl (0, omega arith, refl) (refl, refl)
one_needs asks.Pos (suc n) Pos k = absurd cc
one_needs asks.Pos (suc n) Neg k = absurd cc
one_needs asks.Neg (suc n) Pos k = absurd cc
one_needs asks.Neg (suc n) Neg k = absurd cc
one_needs asks.Both (suc n) Pos k = absurd cc
one_needs asks.Both (suc n) Neg k = absurd cc

one_nodes : (ask : Ask) → nodes_in (one_rails ask) ≡ 1
one_nodes asks.Pos = refl
one_nodes asks.Neg = refl
one_nodes asks.Both = refl

one_is : (ask : Ask) → IsDemand one_built ask (one_rails ask)
one_is ask = record {
  nodes = one_nodes ask;
  exact = λ node lt sign. (one_needs ask node sign, Needed-least one_built ask (λ n s. is_needed (one_rails ask) n s ≡ true) (one_outputs ask) (one_step ask) node sign);
}

pub rails_are_judged : RailsAreJudged
rails_are_judged = record { adder = adder_is; chain = chain_is; one = one_is }
