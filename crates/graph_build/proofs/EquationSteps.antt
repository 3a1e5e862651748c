-- One equation more has its literal.
use Rattle.std.proofs.Common.{◌≡◌, ℕ, ◌+◌, ◌≤◌, ◌<◌, ◌⊎◌, inl, inr, List, [], ◌∷◌, Bool, All, length, map, take, drop, get_or, set, drop-cons, add-one, sym, ◌∙◌, ap, subst, arith}
use Rattle.std.specs.Prelude.{slice_index}
use Rattle.std.proofs.lemmas.List.{get_or-map, length-map, take_more, map-append}
use Rattle.pulse_ids.specs.Ids.{Lit, NodeLit}
use Rattle.aig_core.specs.Graphs.{PlainGraph}
use Rattle.aig_core.specs.Values.{value_of}
use Rattle.source_machine.specs.declared.machines.Equation.{Equation}
use Rattle.source_machine.specs.declared.machines.RawMachine.{RawMachine}
use Rattle.source_machine.specs.Machines.{PlainMachine, PlainEquation, literal_of, equation_of, machine_of}
use Rattle.pulse_ids.specs.Lists.{IsIn, bit_at}
use Rattle.source_machine.specs.Fitting.{Fits, LiteralFits, EquationFits, size_of_cubes, size_of}
use Rattle.source_machine.specs.Runs.{Agrees, equation_value}
use Rattle.source_machine.specs.Grounding.{cube_nets}
use Rattle.source_machine.specs.Dependencies.{start_nets}
use Rattle.graph_build.specs.Equations.{IsLiteralOf}
use Rattle.graph_build.specs.Literals.{net_value, HasLiterals}
use Rattle.graph_build.specs.Orders.{equation_nets, IsBuilt, IsBuildOrder}
use Rattle.graph_build.specs.Sizes.{equation_sizes, sum_at, AreEquationsSoFar}
use Rattle.graph_build.proofs.EquationValues.{equation_value_same}
use Rattle.pulse_ids.proofs.CallerLemmas.{IsIn-append, IsIn-at}
use Rattle.graph_build.proofs.NetLiterals.{literal_set, literals_kept, fewer_built}
use Rattle.graph_build.proofs.SizeLemmas.{order_within}

-- an equation of a machine that fits
pub equation_fits : (raw : RawMachine) → Fits (machine_of raw) → (number : ℕ) (d : Equation) → number < length raw.equations.items
    → EquationFits raw.nets (equation_of (get_or raw.equations.items number d))
equation_fits raw fits number d lt =
    subst (EquationFits raw.nets) (get_or-map equation_of raw.equations.items number d (equation_of d) lt)
    (fits.nets_fit.equations_fit number (equation_of d) (omega (arith, lt, length-map raw.equations.items equation_of)))

-- the same, for the code's cubes
pub cubes_fit : (nets width : ℕ) (cubes : List (List Lit)) → width ≡ nets + 1 → All (All (LiteralFits nets)) (map (map literal_of) cubes)
    → All (λ cube. All (λ literal. literal.id.number < width) cube) cubes
cubes_fit nets width cubes e all i d lt j f lt' =
    let cube : All (LiteralFits nets) (map literal_of (get_or cubes i d)) =
    subst (All (LiteralFits nets)) (get_or-map (map literal_of) cubes i d (map literal_of d) lt)
    (all i (map literal_of d) (omega (arith, lt, length-map cubes (map literal_of)))) in
    let low : LiteralFits nets (literal_of (get_or (get_or cubes i d) j f)) =
    subst (LiteralFits nets) (get_or-map literal_of (get_or cubes i d) j f (literal_of f) lt')
    (cube j (literal_of f) (omega (arith, lt', length-map (get_or cubes i d) literal_of))) in
    omega (arith, low, e)

-- the first equation needs no literal of another one
pub equations_begin : (machine : PlainMachine) (order : List ℕ) (graph : PlainGraph) (literals : List NodeLit) → IsBuildOrder machine order → graph.pairs ≡ []
    → HasLiterals machine graph literals (λ net. IsIn net (start_nets machine)) → AreEquationsSoFar machine order 0 graph literals
equations_begin machine order graph literals h bare has = record {
  has = fewer_built machine graph literals (λ net. IsIn net (start_nets machine)) (IsBuilt machine []) (λ net k. elim k [ inl i ↦ i | inr i ↦ absurd i ]) has;
  small = omega (arith, order_within machine order h, ap (λ l. length l) bare);
}

-- a number of the order is one of an equation
pub number_inside : (raw : RawMachine) (order : List ℕ) → IsBuildOrder (machine_of raw) order → (place : ℕ) → place < length order → get_or order place 0 < length raw.equations.items
number_inside raw order built place lt =
    omega (arith, built.in_range (get_or order place 0) (IsIn-at order place 0 lt), length-map raw.equations.items equation_of)

module _ (raw : RawMachine) (fits : Fits (machine_of raw)) (order : List ℕ) (built : IsBuildOrder (machine_of raw) order) (place : ℕ) (lt : place < length order) (d : Equation) where
  abbrev machine : PlainMachine
  machine = machine_of raw

  abbrev number : ℕ
  number = get_or order place 0

  abbrev equation : PlainEquation
  equation = equation_of (get_or raw.equations.items number d)

  pub inside : number < length raw.equations.items
  inside = number_inside raw order built place lt

  wide : number < length machine.equations
  wide = omega (arith, inside, length-map raw.equations.items equation_of)

  at_place : get_or machine.equations number (equation_of d) ≡ equation
  at_place = get_or-map equation_of raw.equations.items number d (equation_of d) inside

  its_net : slice_index (equation_nets machine) number ≡ equation.net
  its_net = get_or-map (λ e. e.net) machine.equations number (equation_of d) 0 wide ∙ ap (λ e. e.net) at_place

  its_reads : get_or (map cube_nets machine.equations) number [] ≡ cube_nets equation
  its_reads = get_or-map cube_nets machine.equations number (equation_of d) [] wide ∙ ap cube_nets at_place

  its_size : slice_index (equation_sizes machine) number ≡ size_of_cubes equation.cubes
  its_size = get_or-map (λ e. size_of_cubes e.cubes) machine.equations number (equation_of d) 0 wide ∙ ap (λ e. size_of_cubes e.cubes) at_place

  is_one : IsIn equation machine.equations
  is_one = subst (λ e. IsIn e machine.equations) at_place (IsIn-at machine.equations number (equation_of d) wide)

  -- the rest of the order has room, and so has this equation
  split : drop place order ≡ number ∷ drop (place + 1) order
  split = drop-cons order place 0 lt ∙ ap (λ n. number ∷ drop n order) (sym (add-one place))

  pub room : (graph : PlainGraph) (literals : List NodeLit) → AreEquationsSoFar machine order place graph literals
      → length graph.pairs + size_of_cubes equation.cubes + sum_at (equation_sizes machine) (drop (place + 1) order) ≤ size_of machine
  room graph literals h = omega (arith, h.small, its_size, ap (λ l. sum_at (equation_sizes machine) l) split)

  module _ (old new : PlainGraph) (literals after : List NodeLit) (item : NodeLit) (h : AreEquationsSoFar machine order place old literals)
      (l : IsLiteralOf (size_of_cubes equation.cubes) old new (λ state vector. equation_value (net_value old literals state vector) equation) item) where
    worth : (state vector valuation : List Bool) → Agrees machine state vector valuation → value_of new state vector item ≡ bit_at valuation equation.net
    worth state vector valuation agrees =
        l.value_is state vector ∙ equation_value_same (net_value old literals state vector) (bit_at valuation) equation
        (λ used i. h.has.worth used (built.ready place lt used (subst (λ r. IsIn used r) (sym its_reads) i)) state vector valuation agrees)
        ∙ sym (agrees.equations_agree equation is_one)

    more : (other : ℕ) → IsBuilt machine (take (place + 1) order) other → IsBuilt machine (take place order) other ⊎ (equation.net ≡ other)
    more other (inl i) = inl (inl i)
    more other (inr i) = last (IsIn-append other (map (slice_index (equation_nets machine)) (take place order)) (slice_index (equation_nets machine) number ∷ [])
        (subst (λ r. IsIn other r) (ap (λ r. map (slice_index (equation_nets machine)) r) (take_more order place 0 lt)
        ∙ map-append (slice_index (equation_nets machine)) (take place order) (number ∷ [])) i))
      where
        last : IsIn other (map (slice_index (equation_nets machine)) (take place order)) ⊎ IsIn other (slice_index (equation_nets machine) number ∷ [])
            → IsBuilt machine (take place order) other ⊎ (equation.net ≡ other)
        last (inl j) = inl (inr j)
        last (inr (inl e)) = inr (sym its_net ∙ e)
        last (inr (inr none)) = absurd none

    pub equation_goes_on : after ≡ set literals equation.net item → AreEquationsSoFar machine order (place + 1) new after
    equation_goes_on e = record {
      has = literal_set machine new literals after equation.net item (IsBuilt machine (take place order)) (IsBuilt machine (take (place + 1) order)) e
          (omega (arith, h.has.width, (equation_fits raw fits number d inside).0.1)) l.within worth more
          (literals_kept machine (size_of_cubes equation.cubes) old new literals (IsBuilt machine (take place order)) l.grew h.has);
      small = omega (arith, room old literals h, l.grew.at_most);
    }
