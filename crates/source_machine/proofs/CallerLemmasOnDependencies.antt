-- What an equation at a place needs and yields, and that an order of the equations makes exactly the grounded
-- nets known: the lemmas that the crates above may cite.
use Rattle.std.proofs.Common.{◌≡◌, ℕ, zero, suc, ◌<◌, inl, inr, List, [], ◌∷◌, length, map, get_or, refl, sym, ◌∙◌, ap, subst, arith}
use Rattle.std.proofs.lemmas.List.{get_or-map, length-map}
use Rattle.pulse_ids.specs.Lists.{IsIn}
use Rattle.pulse_ids.proofs.CallerLemmas.{IsIn-left, IsIn-right, IsIn-append, IsIn-contained, contained-IsIn}
use Rattle.dependency_order.specs.Orders.{Reached, at_start, by_item, IsKnown, IsOrder}
use Rattle.dependency_order.proofs.CallerLemmas.{reached_is_known}
use Rattle.source_machine.specs.declared.machines.Equation.{Equation}
use Rattle.source_machine.specs.Machines.{PlainEquation, PlainMachine, equation_of}
use Rattle.source_machine.specs.Grounding.{Grounded, of_constant, of_input, of_latch, of_equation, cube_nets}
use Rattle.source_machine.specs.Dependencies.{start_nets, dependencies_of}

-- the equation at a place, with what it yields and needs
pub item_at : (xs : List PlainEquation) (i : ℕ) → i < length xs
    → (x : PlainEquation) × IsIn x xs × (get_or (map (λ equation. equation.net ∷ []) xs) i [] ≡ x.net ∷ []) × (get_or (map cube_nets xs) i [] ≡ cube_nets x)
item_at [] i lt = absurd (omega arith)
item_at (x ∷ xs) zero lt = (x, inl refl, refl, refl)
item_at (x ∷ xs) (suc i) lt = let r = item_at xs i (omega arith) in (r.0, inr r.1, r.2, r.3)

pub place_at : (xs : List PlainEquation) (x : PlainEquation) → IsIn x xs
    → (i : ℕ) × (i < length xs) × (get_or (map (λ equation. equation.net ∷ []) xs) i [] ≡ x.net ∷ []) × (get_or (map cube_nets xs) i [] ≡ cube_nets x)
place_at [] x h = absurd h
place_at (y ∷ xs) x (inl e) = (0, omega arith, ap (λ z. z.net ∷ []) e, ap cube_nets e)
place_at (y ∷ xs) x (inr h) = let r = place_at xs x h in (suc r.0, omega (arith, r.1), r.2, r.3)

-- an item of a list and its key
pub item_mapped : {X Y : Type 0} (f : X → Y) (xs : List X) (i : ℕ) (x : X) (d : Y) → i < length xs → x ≡ get_or xs i x → f x ≡ get_or (map f xs) i d
item_mapped f xs i x d lt e = ap f e ∙ sym (get_or-map f xs i x d lt)

-- the equation at a place, with its net and its cube nets
pub equation_at : (xs : List PlainEquation) (i : ℕ) (x : PlainEquation) → i < length xs → x ≡ get_or xs i x
    → IsIn x xs × (get_or (map (λ equation. equation.net ∷ []) xs) i [] ≡ x.net ∷ []) × (get_or (map cube_nets xs) i [] ≡ cube_nets x)
equation_at [] i x lt e = absurd (omega arith)
equation_at (y ∷ xs) zero x lt e = (inl (sym e), ap (λ z. z.net ∷ []) (sym e), ap cube_nets (sym e))
equation_at (y ∷ xs) (suc i) x lt e = let r = equation_at xs i x (omega arith) e in (inr r.0, r.1, r.2)

-- the same, for an equation of the code
pub code_equation_at : (xs : List Equation) (i : ℕ) (x : Equation) → i < length xs → x ≡ get_or xs i x
    → IsIn (equation_of x) (map equation_of xs) × (get_or (map (λ equation. equation.net ∷ []) (map equation_of xs)) i [] ≡ (equation_of x).net ∷ []) ×
    (get_or (map cube_nets (map equation_of xs)) i [] ≡ cube_nets (equation_of x))
code_equation_at xs i x lt e =
    equation_at (map equation_of xs) i (equation_of x) (omega (arith, length-map xs equation_of)) (item_mapped equation_of xs i x (equation_of x) lt e)

module _ (machine : PlainMachine) where
  pub start_grounded : (net : ℕ) → IsIn net (start_nets machine) → Grounded machine net
  start_grounded net (inl e) = subst (Grounded machine) e of_constant
  start_grounded net (inr i) = elim (IsIn-append net machine.inputs _ i) [ inl j ↦ of_input net j | inr j ↦ of_latch net j ]

  -- a grounded net is one that the equations reach
  pub grounded_is_reached : (net : ℕ) → Grounded machine net → Reached (dependencies_of machine) net
  grounded_is_reached _ of_constant = at_start 0 (contained-IsIn (start_nets machine) 0 (inl refl))
  grounded_is_reached _ (of_input net i) = at_start net (contained-IsIn (start_nets machine) net (inr (IsIn-left net machine.inputs _ i)))
  grounded_is_reached _ (of_latch net i) = at_start net (contained-IsIn (start_nets machine) net (inr (IsIn-right net machine.inputs _ i)))
  grounded_is_reached _ (of_equation net equation i e below) =
      let r = place_at machine.equations equation i in
      by_item net r.0 (omega (arith, r.1, length-map machine.equations cube_nets))
      (λ used j. grounded_is_reached used (below used (subst (λ l. IsIn used l) r.3 (IsIn-contained _ used j))))
      (contained-IsIn _ net (subst (λ l. IsIn net l) (sym r.2) (inl e)))

  -- a net that the equations reach is grounded
  pub reached_is_grounded : (net : ℕ) → Reached (dependencies_of machine) net → Grounded machine net
  reached_is_grounded _ (at_start net i) = start_grounded net (IsIn-contained (start_nets machine) net i)
  reached_is_grounded _ (by_item net item lt all i) =
      let r = item_at machine.equations item (omega (arith, lt, length-map machine.equations cube_nets)) in
      of_equation net r.0 r.1 (only r.0.net (subst (λ l. IsIn net l) r.2 (IsIn-contained _ net i)))
      (λ used j. reached_is_grounded used (all used (contained-IsIn _ used (subst (λ l. IsIn used l) (sym r.3) j))))
    where
      only : (n : ℕ) → IsIn net (n ∷ []) → n ≡ net
      only n (inl e) = e
      only n (inr j) = absurd j

  -- an order of the equations makes each grounded net known
  pub grounded_is_known : (order : List ℕ) → IsOrder (dependencies_of machine) order → (net : ℕ) → Grounded machine net → IsKnown (dependencies_of machine) order net
  grounded_is_known order ordered net g =
      reached_is_known (dependencies_of machine) order ordered net (grounded_is_reached net g)
