-- The value that a grounded net has, by the way it is grounded, and that each way gives the same.
use Rattle.std.proofs.Common.{◌≡◌, ℕ, ◌+◌, ◌≤◌, ◌⊎◌, inl, inr, List, ◌++◌, map, Bool, false, refl, ◌∙◌, ap, subst, arith}
use Rattle.pulse_ids.specs.Lists.{IsIn, occurrences}
use Rattle.pulse_ids.proofs.CallerLemmas.{is_in, IsIn-map}
use Rattle.pulse_ids.proofs.CallerLemmasOnCounts.{IsIn-occurrences, occurrences-append, same_item}
use Rattle.source_machine.specs.Machines.{PlainEquation, PlainMachine}
use Rattle.source_machine.specs.Runs.{equation_value, driven_nets}
use Rattle.source_machine.specs.Grounding.{Grounded, of_constant, of_input, of_latch, of_equation, cube_nets, IsWellFounded}
use Rattle.source_machine.proofs.CubeValues.{equation_value-same, SameOn}

-- a function of the nets of a list, as a function of all nets
unfoldable pub choice : (nets : List ℕ) (net : ℕ) → IsIn net nets ⊎ (IsIn net nets → ⊥) → ((n : ℕ) → IsIn n nets → Bool) → Bool
choice nets net (inl i) f = f net i
choice nets net (inr out) f = false

unfoldable pub extended : (nets : List ℕ) → ((n : ℕ) → IsIn n nets → Bool) → ℕ → Bool
extended nets f net = choice nets net (is_in net nets) f

pub extended-is : (nets : List ℕ) (f : (n : ℕ) → IsIn n nets → Bool) (net : ℕ) (b : Bool) → IsIn net nets → ((i : IsIn net nets) → f net i ≡ b) → extended nets f net ≡ b
unfolding extended choice
extended-is nets f net b h same = go (is_in net nets)
  where
    go : (c : IsIn net nets ⊎ (IsIn net nets → ⊥)) → choice nets net c f ≡ b
    go (inl i) = same i
    go (inr out) = absurd (out h)

pub extended-same : (nets : List ℕ) (f g : (n : ℕ) → IsIn n nets → Bool) → ((n : ℕ) (i j : IsIn n nets) → f n i ≡ g n j) → SameOn nets (extended nets f) (extended nets g)
unfolding extended choice
extended-same nets f g same net h = go (is_in net nets)
  where
    go : (c : IsIn net nets ⊎ (IsIn net nets → ⊥)) → choice nets net c f ≡ choice nets net c g
    go (inl i) = same net i i
    go (inr out) = refl

-- the value of a net, where inputs and latches have the bits of `source`
unfoldable pub value_by : (machine : PlainMachine) (source : ℕ → Bool) (net : ℕ) → Grounded machine net → Bool
value_by machine source _ of_constant = false
value_by machine source _ (of_input net i) = source net
value_by machine source _ (of_latch net i) = source net
value_by machine source _ (of_equation net equation i e below) =
    equation_value (extended (cube_nets equation) (λ used j. value_by machine source used (below used j))) equation

-- an equation's value at two ways to give its nets bits that agree
pub same_equation : (a b : PlainEquation) → a ≡ b → (f : (n : ℕ) → IsIn n (cube_nets a) → Bool) (g : (n : ℕ) → IsIn n (cube_nets b) → Bool)
    → ((n : ℕ) (i : IsIn n (cube_nets a)) (j : IsIn n (cube_nets b)) → f n i ≡ g n j) → equation_value (extended (cube_nets a) f) a ≡ equation_value (extended (cube_nets b) g) b
same_equation a b e f =
    subst (λ x. (g : (n : ℕ) → IsIn n (cube_nets x) → Bool) → ((n : ℕ) (i : IsIn n (cube_nets a)) (j : IsIn n (cube_nets x)) → f n i ≡ g n j)
    → equation_value (extended (cube_nets a) f) a ≡ equation_value (extended (cube_nets x) g) x) e
    (λ g same. equation_value-same (extended (cube_nets a) f) (extended (cube_nets a) g) a (extended-same (cube_nets a) f g same))

-- a net of an equation is no input and no latch output
pub not_both : (machine : PlainMachine) → IsWellFounded machine → (net : ℕ) → IsIn net machine.inputs ⊎ IsIn net (map (λ latch. latch.out) machine.latches)
    → IsIn net (map (λ equation. equation.net) machine.equations) → ⊥
not_both machine founded net a b = founded.driven_once net (count a)
  where
    second : 1 ≤ occurrences net (map (λ equation. equation.net) machine.equations)
    second = IsIn-occurrences net (map (λ equation. equation.net) machine.equations) b

    all : occurrences net (driven_nets machine) ≡ occurrences net machine.inputs +
        (occurrences net (map (λ latch. latch.out) machine.latches) + occurrences net (map (λ equation. equation.net) machine.equations))
    all = occurrences-append net machine.inputs _ ∙ ap (λ n. occurrences net machine.inputs + n) (occurrences-append net (map (λ latch. latch.out) machine.latches) _)

    count : IsIn net machine.inputs ⊎ IsIn net (map (λ latch. latch.out) machine.latches) → 2 ≤ occurrences net (driven_nets machine)
    count (inl i) = omega (arith, all, second, IsIn-occurrences net machine.inputs i)
    count (inr i) = omega (arith, all, second, IsIn-occurrences net (map (λ latch. latch.out) machine.latches) i)

pub equation_net : (machine : PlainMachine) (net : ℕ) (equation : PlainEquation) → IsIn equation machine.equations → equation.net ≡ net → IsIn net (map (λ x. x.net) machine.equations)
equation_net machine net equation i e =
    subst (λ n. IsIn n (map (λ x. x.net) machine.equations)) e (IsIn-map (λ x. x.net) equation machine.equations i)

pub one_equation : (machine : PlainMachine) → IsWellFounded machine → (net : ℕ) (a b : PlainEquation)
    → IsIn a machine.equations → IsIn b machine.equations → a.net ≡ net → b.net ≡ net → a ≡ b
one_equation machine founded net a b i j p q =
    same_item (λ x. x.net) net machine.equations a b (once (founded.driven_once net)) i j p q
  where
    once : (2 ≤ occurrences net (driven_nets machine) → ⊥) → occurrences net (map (λ x. x.net) machine.equations) ≤ 1
    once twice =
        let all : occurrences net (driven_nets machine) ≡ occurrences net machine.inputs + occurrences net
        (map (λ latch. latch.out) machine.latches ++ map (λ equation. equation.net) machine.equations) = occurrences-append net machine.inputs _ in
        let rest = occurrences-append net (map (λ latch. latch.out) machine.latches) (map (λ equation. equation.net) machine.equations) in omega arith
