-- The order that the search finds is the order of building.
use Rattle.std.proofs.Common.{◌≡◌, ℕ, zero, suc, ◌≤◌, ◌<◌, ◌⊎◌, inl, inr, List, [], ◌∷◌, ◌++◌, length, map, take, get_or, eqb, Contains, refl, sym, ◌∙◌, ap, subst, arith}
use Rattle.std.specs.Prelude.{slice_index}
use Rattle.std.specs.List.{IsDistinct}
use Rattle.std.proofs.lemmas.Bool.{cases_eq}
use Rattle.std.proofs.lemmas.List.{length-map}
use Rattle.std.proofs.lemmas.Map.Keys.{IsDistinct-tail}
use Rattle.pulse_ids.specs.Lists.{IsIn, occurrences}
use Rattle.pulse_ids.proofs.CallerLemmas.{IsIn-append, IsIn-left, IsIn-map, IsIn-from_map, IsIn-flat_map, IsIn-take, IsIn-contained, contained-IsIn, index_of}
use Rattle.pulse_ids.proofs.CallerLemmasOnCounts.{occurrences-head, occurrences-other, occurrences-absent}
use Rattle.dependency_order.specs.Agendas.{AllowsLowest}
use Rattle.dependency_order.specs.Dependencies.{needs_of}
use Rattle.dependency_order.specs.Orders.{Reached, IsKnown, IsOrder, IsChosen, IsReady as IsReadyItem}
use Rattle.dependency_order.proofs.CallerLemmas.{one_place, lowest_key, all_come}
use Rattle.source_machine.specs.declared.machines.Equation.{Equation}
use Rattle.source_machine.specs.Machines.{PlainEquation, PlainMachine, equation_of}
use Rattle.source_machine.specs.Grounding.{Grounded, of_constant, of_input, of_latch, cube_nets, IsWellFounded}
use Rattle.source_machine.specs.Dependencies.{start_nets, dependencies_of}
use Rattle.source_machine.proofs.CallerLemmasOnDependencies.{item_at, grounded_is_reached}
use Rattle.graph_build.specs.Orders.{equation_nets, IsBuilt, IsReady, IsBuildOrder}

-- a number stands once at most where no two are equal
occurrences-distinct : (n : ℕ) (xs : List ℕ) → IsDistinct eqb xs → occurrences n xs ≤ 1
occurrences-distinct n [] once = omega arith
occurrences-distinct n (x ∷ xs) once = elim (cases_eq x n) [
  | inl e ↦ omega (arith, occurrences-head n x xs e, occurrences-absent n xs (apart e))
  | inr ne ↦ omega (arith, occurrences-other n x xs ne, occurrences-distinct n xs (IsDistinct-tail eqb x xs once))
]
  where
    apart : x ≡ n → IsIn n xs → ⊥
    apart e i =
        let p = index_of n xs 0 i in
        omega (arith, one_place (x ∷ xs) 0 (suc p.0) once (omega arith) (omega (arith, p.1)) (e ∙ sym p.2))

-- an equation yields its net
one_net : (xs : List PlainEquation) (i : ℕ) → i < length xs
    → get_or (map (λ equation. equation.net ∷ []) xs) i [] ≡ slice_index (map (λ equation. equation.net) xs) i ∷ []
one_net [] i lt = absurd (omega arith)
one_net (x ∷ xs) zero lt = refl
one_net (x ∷ xs) (suc i) lt = one_net xs i (omega arith)

-- the nets of the code's equations
pub nets_of : (xs : List Equation) → map (λ (equation : Equation). equation.net.number) xs ≡ map (λ (equation : PlainEquation). equation.net) (map equation_of xs)
nets_of [] = refl
nets_of (x ∷ xs) = ap (λ l. x.net.number ∷ l) (nets_of xs)

module _ (machine : PlainMachine) where
  -- all of these are equations of the machine
  abbrev AreInside : List ℕ → Type 0
  AreInside order = (item : ℕ) → IsIn item order → item < length machine.equations

  only : (n m : ℕ) → IsIn n (m ∷ []) → m ≡ n
  only n m (inl e) = e
  only n m (inr i) = absurd i

  -- what the search knows is built
  known_is_built : (order : List ℕ) → AreInside order → (net : ℕ) → IsKnown (dependencies_of machine) order net → IsBuilt machine order net
  known_is_built order inside net (inl i) = inl (IsIn-contained (start_nets machine) net i)
  known_is_built order inside net (inr y) =
      let i : IsIn y.0 order = IsIn-contained order y.0 y.1 in
      let here : IsIn net (slice_index (equation_nets machine) y.0 ∷ []) = subst (λ l. IsIn net l) (one_net machine.equations y.0 (inside y.0 i)) (IsIn-contained _ net y.2) in
      inr (subst (λ n. IsIn n (map (slice_index (equation_nets machine)) order)) (only net _ here) (IsIn-map (slice_index (equation_nets machine)) y.0 order i))

  built_is_known : (order : List ℕ) → AreInside order → (net : ℕ) → IsBuilt machine order net → IsKnown (dependencies_of machine) order net
  built_is_known order inside net (inl i) = inl (contained-IsIn (start_nets machine) net i)
  built_is_known order inside net (inr i) =
      let r = IsIn-from_map (slice_index (equation_nets machine)) net order i in
      inr (r.0, contained-IsIn order r.0 r.1, contained-IsIn _ net (subst (λ l. IsIn net l) (sym (one_net machine.equations r.0 (inside r.0 r.1))) (inl r.2)))

  ready_by_search : (order : List ℕ) → AreInside order → (item : ℕ) → IsReadyItem (dependencies_of machine) order item → IsReady machine order item
  ready_by_search order inside item all = λ used i. known_is_built order inside used (all used (contained-IsIn _ used i))

  ready_in_search : (order : List ℕ) → AreInside order → (item : ℕ) → IsReady machine order item → IsReadyItem (dependencies_of machine) order item
  ready_in_search order inside item all = λ used i. built_is_known order inside used (all used (IsIn-contained _ used i))

  module _ (founded : IsWellFounded machine) where
    -- each net that an equation reads is grounded
    read_grounded : (used : ℕ) (equation : PlainEquation) → IsIn equation machine.equations → IsIn used (cube_nets equation) → Grounded machine used
    read_grounded used equation i j = elim (cases_eq used 0) [
      | inl e ↦ subst (Grounded machine) (sym e) of_constant
      | inr ne ↦ driven (IsIn-append used machine.inputs _ (founded.all_driven used ne (IsIn-left used _ _ (IsIn-flat_map cube_nets used equation machine.equations i j))))
    ]
      where
        latch_or_equation : IsIn used (map (λ latch. latch.out) machine.latches) ⊎ IsIn used (equation_nets machine) → Grounded machine used
        latch_or_equation (inl k) = of_latch used k
        latch_or_equation (inr k) = founded.all_grounded used k

        driven : IsIn used machine.inputs ⊎ IsIn used (map (λ latch. latch.out) machine.latches ++ equation_nets machine) → Grounded machine used
        driven (inl k) = of_input used k
        driven (inr k) = latch_or_equation (IsIn-append used (map (λ latch. latch.out) machine.latches) _ k)

    pub is_build_order : (order : List ℕ) → IsOrder (dependencies_of machine) order
        → IsChosen (AllowsLowest (equation_nets machine)) (dependencies_of machine) order → IsBuildOrder machine order
    is_build_order order ordered chosen = record {
      in_range = in_range;
      complete = λ equation lt. IsIn-contained order equation (all_come (dependencies_of machine) order ordered needs_reached equation (omega (arith, lt, count)));
      once = λ equation. occurrences-distinct equation order ordered.once;
      ready = λ place lt. ready_by_search (take place order) (before place) (slice_index order place) (ordered.ready place lt);
      lowest = λ place other lt low out all. lowest_key (equation_nets machine) (slice_index order place) other
          (chosen place other lt (omega (arith, low, count)) (λ c. out (IsIn-contained (take place order) other c)) (ready_in_search (take place order) (before place) other all));
    }
      where
        count : length (map cube_nets machine.equations) ≡ length machine.equations
        count = length-map machine.equations cube_nets

        in_range : AreInside order
        in_range equation i = omega (arith, count, ((ordered.exact equation).0 (contained-IsIn order equation i)).0)

        before : (place : ℕ) → AreInside (take place order)
        before place equation i = in_range equation (IsIn-take equation place order i)

        needs_reached : (item used : ℕ) → item < length (map cube_nets machine.equations) → Contains (needs_of (dependencies_of machine) item) used → Reached (dependencies_of machine) used
        needs_reached item used lt c =
            let r = item_at machine.equations item (omega (arith, lt, count)) in
            grounded_is_reached machine used (read_grounded used r.0 r.1 (subst (λ l. IsIn used l) r.3 (IsIn-contained _ used c)))
