-- What the equations of a machine wait for, and that an order of them reaches exactly the grounded nets.
use Rattle.std.proofs.Common.{◌≡◌, ℕ, ◌+◌, ◌≤◌, ◌<◌, inl, inr, List, [], ◌∷◌, ◌++◌, ◌||◌, length, map, get_or, eqb, Bool, true, false, All, refl, sym, ◌∙◌, ap, arith, length-append, ne_eqb}
use Rattle.std.specs.List.{IsDistinct, flat_map, list_any}
use Rattle.std.proofs.lemmas.Bool.{cases_eq, cases_lt}
use Rattle.std.proofs.lemmas.List.{get_or_default, length-map}
use Rattle.std.proofs.lemmas.List.Elements.{All-map, All-nil, All-cons}
use Rattle.std.proofs.lemmas.List.Sums.{sum_by-cons}
use Rattle.std.proofs.lemmas.Map.Keys.{IsDistinct-from_apart}
use Rattle.std.proofs.lemmas.Map.Steps.{length-le_from_distinct_below}
use Rattle.pulse_ids.specs.Lists.{IsIn, occurrences}
use Rattle.pulse_ids.proofs.CallerLemmas.{IsIn-left, IsIn-map, IsIn-flat_map}
use Rattle.pulse_ids.proofs.CallerLemmasOnCounts.{occurrences-append, one_place}
use Rattle.dependency_order.specs.Lists.{total}
use Rattle.dependency_order.specs.Dependencies.{PlainDependencies, AreBelow, AreInRange, StaysSmall, with_item, first_items, needs_of, yields_of}
use Rattle.dependency_order.specs.Orders.{IsOrderOf, PlainOrder}
use Rattle.dependency_order.proofs.CallerLemmas.{next_needs_fit, next_yields_fit, next_stays_small, next_is_first, all_items}
use Rattle.source_machine.specs.declared.machines.Equation.{Equation}
use Rattle.source_machine.specs.declared.machines.RawMachine.{RawMachine}
use Rattle.source_machine.specs.Machines.{PlainLiteral, PlainEquation, PlainMachine, equation_of, machine_of}
use Rattle.source_machine.specs.Fitting.{Fits, size_of_cubes, size_of_equations}
use Rattle.source_machine.specs.Runs.{driven_nets}
use Rattle.source_machine.specs.Grounding.{Grounded, cube_nets, IsNever, IsDrivenTwice}
use Rattle.source_machine.specs.Dependencies.{start_nets, dependencies_of}
use Rattle.source_machine.proofs.CallerLemmasOnDependencies.{code_equation_at, grounded_is_reached, reached_is_grounded}
use Rattle.source_machine.proofs.CallerLemmasOnRanges.{equation_in_range, used_fit, start_fit}

All-from_IsIn : {X : Type 0} (P : X → Type 0) (xs : List X) → ((x : X) → IsIn x xs → P x) → All P xs
All-from_IsIn P [] h = All-nil P
All-from_IsIn P (x ∷ xs) h = All-cons P x xs (h x (inl refl)) (All-from_IsIn P xs (λ y i. h y (inr i)))

module _ (machine : PlainMachine) where
  -- the net of an equation is grounded exactly where the order makes it known
  pub unknown_is_ungrounded : (order : PlainOrder) → IsOrderOf (dependencies_of machine) order → (net : ℕ) → get_or order.known net false ≡ false → Grounded machine net → ⊥
  unknown_is_ungrounded order h net e g =
      let k : get_or order.known net false ≡ true = (h.known net).1 (grounded_is_reached machine net g) in cc

  pub ungrounded_is_unknown : (order : PlainOrder) → IsOrderOf (dependencies_of machine) order → (net : ℕ) → (Grounded machine net → ⊥) → get_or order.known net false ≡ false
  ungrounded_is_unknown order h net out = go (get_or order.known net false) refl
    where
      go : (bit : Bool) → get_or order.known net false ≡ bit → get_or order.known net false ≡ false
      go true e = absurd (out (reached_is_grounded machine net ((h.known net).0 e)))
      go false e = e

-- the literals of an equation are at most its size
cube_size : (cubes : List (List PlainLiteral)) → length (flat_map (map (λ literal. literal.net)) cubes) ≤ size_of_cubes cubes
cube_size [] = omega arith
cube_size (cube ∷ cubes) =
    let rest = cube_size cubes in
    omega (arith, length-append (map (λ literal. literal.net) cube) (flat_map (map (λ literal. literal.net)) cubes), length-map cube (λ literal. literal.net))

needs_size : (equations : List PlainEquation) → total (map cube_nets equations) ≤ size_of_equations equations
needs_size [] = omega arith
needs_size (equation ∷ equations) =
    omega (arith, needs_size equations, cube_size equation.cubes, sum_by-cons (length {A = ℕ}) (cube_nets equation) (map cube_nets equations))

yields_size : (equations : List PlainEquation) → total (map (λ equation. equation.net ∷ []) equations) ≡ length equations
yields_size [] = refl
yields_size (equation ∷ equations) =
    omega (arith, yields_size equations, sum_by-cons (length {A = ℕ}) (equation.net ∷ []) (map (λ x. x.net ∷ []) equations))

-- numbers that each stand once are distinct
distinct : (xs : List ℕ) → ((n : ℕ) → occurrences n xs ≤ 1) → IsDistinct eqb xs
distinct xs once = IsDistinct-from_apart eqb xs (λ i j d lt inside. ne_eqb (get_or xs i d) (get_or xs j d) (λ same. absurd (apart i j d lt inside same)))
  where
    apart : (i j d : ℕ) → i < j → j < length xs → get_or xs i d ≡ get_or xs j d → ⊥
    apart i j d lt inside same =
        let here : get_or xs i 0 ≡ get_or xs j d = get_or_default xs i 0 d (omega arith) ∙ same in
        let there : get_or xs j 0 ≡ get_or xs j d = get_or_default xs j 0 d inside in
        omega (arith, one_place (get_or xs j d) xs i j (once (get_or xs j d)) (omega arith) inside here there, lt)

member : (q : ℕ) (xs : List ℕ) → list_any (eqb q) xs ≡ true → IsIn q xs
member q [] e = absurd cc
member q (x ∷ xs) e = elim (cases_eq x q) [
  | inl same ↦ inl same
  | inr ne ↦ inr (member q xs (sym (ap (λ b. b || list_any (eqb q) xs) (ne_eqb q x (λ s. ne (sym s)))) ∙ e))
]

module _ (machine : PlainMachine) (fits : Fits machine) where
  -- where each net is driven once there are no more equations than nets
  few_equations : IsNever (IsDrivenTwice machine) → length machine.equations ≤ machine.nets + 1
  few_equations never = omega (
    arith,
    length-le_from_distinct_below (map (λ equation. equation.net) machine.equations) (machine.nets + 1)
        (distinct (map (λ equation. equation.net) machine.equations) once) (λ q e. equation_in_range machine fits q (member q (map (λ equation. equation.net) machine.equations) e)),
    length-map machine.equations (λ equation. equation.net),
  )
    where
      once : (n : ℕ) → occurrences n (map (λ equation. equation.net) machine.equations) ≤ 1
      once n = elim (cases_lt (occurrences n (driven_nets machine)) 2) [
        | inl lt ↦ omega (
          arith,
          lt,
          occurrences-append n machine.inputs (map (λ latch. latch.out) machine.latches ++ map (λ equation. equation.net) machine.equations),
          occurrences-append n (map (λ latch. latch.out) machine.latches) (map (λ equation. equation.net) machine.equations),
        )
        | inr le ↦ absurd (never n le)
      ]

  equation_needs : (equation : PlainEquation) → IsIn equation machine.equations → AreBelow (machine.nets + 1) (cube_nets equation)
  equation_needs equation i = All-from_IsIn (λ net. net < machine.nets + 1) (cube_nets equation)
      (λ net j. used_fit machine fits net (IsIn-left net (flat_map cube_nets machine.equations) _ (IsIn-flat_map cube_nets net equation machine.equations i j)))

  equation_yields : (equation : PlainEquation) → IsIn equation machine.equations → AreBelow (machine.nets + 1) (equation.net ∷ [])
  equation_yields equation i = All-cons (λ net. net < machine.nets + 1) equation.net []
      (equation_in_range machine fits equation.net (IsIn-map (λ x. x.net) equation machine.equations i)) (All-nil (λ net. net < machine.nets + 1))

  pub starts_are_below : AreBelow (machine.nets + 1) (start_nets machine)
  starts_are_below = All-from_IsIn (λ net. net < machine.nets + 1) (start_nets machine) (start_fit machine fits)

  pub are_in_range : IsNever (IsDrivenTwice machine) → AreInRange (dependencies_of machine)
  are_in_range never = record {
    paired = length-map machine.equations (λ equation. equation.net ∷ []) ∙ sym (length-map machine.equations cube_nets);
    few_items = omega (arith, length-map machine.equations cube_nets, few_equations never, fits.limits.few_nets);
    few_needs = omega (arith, needs_size machine.equations, fits.limits.small);
    few_yields = omega (arith, yields_size machine.equations, few_equations never, fits.limits.few_nets);
    starts_fit = starts_are_below;
    needs_fit = All-map (AreBelow (machine.nets + 1)) cube_nets machine.equations (All-from_IsIn (λ equation. AreBelow (machine.nets + 1) (cube_nets equation)) machine.equations equation_needs);
    yields_fit = All-map (AreBelow (machine.nets + 1)) (λ equation. equation.net ∷ []) machine.equations
        (All-from_IsIn (λ equation. AreBelow (machine.nets + 1) (equation.net ∷ [])) machine.equations equation_yields);
  }

-- one more equation of the code's list, with what it needs and yields, is one more item
module _ (raw : RawMachine) (fits : Fits (machine_of raw)) (never : IsNever (IsDrivenTwice (machine_of raw))) (i : ℕ) (x : Equation)
    (lt : i < length raw.equations.items) (e : x ≡ get_or raw.equations.items i x) (d : PlainDependencies)
    (so_far : d ≡ first_items (dependencies_of (machine_of raw)) i) (needs yields : List ℕ) (needs_are : needs ≡ cube_nets (equation_of x)) (yields_are : yields ≡ x.net.number ∷ []) where
  at : IsIn (equation_of x) (machine_of raw).equations × (yields_of (dependencies_of (machine_of raw)) i ≡ x.net.number ∷ []) ×
      (needs_of (dependencies_of (machine_of raw)) i ≡ cube_nets (equation_of x))
  at = code_equation_at raw.equations.items i x lt e

  needs_here : needs ≡ needs_of (dependencies_of (machine_of raw)) i
  needs_here = needs_are ∙ sym at.2

  yields_here : yields ≡ yields_of (dependencies_of (machine_of raw)) i
  yields_here = yields_are ∙ sym at.1

  range : AreInRange (dependencies_of (machine_of raw))
  range = are_in_range (machine_of raw) fits never

  inside : i < length (map cube_nets (machine_of raw).equations)
  inside = omega (arith, lt, length-map (machine_of raw).equations cube_nets, length-map raw.equations.items equation_of)

  pub added_needs_fit : AreBelow d.count needs
  added_needs_fit = rw (so_far, needs_here) (next_needs_fit (dependencies_of (machine_of raw)) range i inside)

  pub added_yields_fit : AreBelow d.count yields
  added_yields_fit = rw (so_far, yields_here) (next_yields_fit (dependencies_of (machine_of raw)) range i inside)

  pub added_stays_small : StaysSmall d needs yields
  added_stays_small = rw (so_far, needs_here, yields_here) (next_stays_small (dependencies_of (machine_of raw)) range i inside)

  pub added_is_first : with_item d needs yields ≡ first_items (dependencies_of (machine_of raw)) (i + 1)
  added_is_first = rw (so_far, needs_here, yields_here) (next_is_first (dependencies_of (machine_of raw)) range i inside)

-- all equations are added
pub all_added : (raw : RawMachine) → Fits (machine_of raw) → IsNever (IsDrivenTwice (machine_of raw)) → (i : ℕ) → i ≡ length raw.equations.items
    → first_items (dependencies_of (machine_of raw)) i ≡ dependencies_of (machine_of raw)
all_added raw fits never i e =
    ap (λ n. first_items (dependencies_of (machine_of raw)) n) (omega (arith, e, length-map (machine_of raw).equations cube_nets, length-map raw.equations.items equation_of))
    ∙ all_items (dependencies_of (machine_of raw)) (are_in_range (machine_of raw) fits never)
