-- The lowest nets that the searches find are those of a machine's refusals.
use Rattle.std.proofs.Common.{ℕ, inl, inr, [], ◌∷◌, ◌++◌, map, sym}
use Rattle.std.specs.declared.option.Option.{Option}
use Rattle.pulse_ids.specs.Lists.{IsIn}
use Rattle.pulse_ids.proofs.CallerLemmas.{IsIn-left, IsIn-right, IsIn-behind}
use Rattle.dependency_order.specs.Orders.{PlainOrder, IsOrderOf}
use Rattle.source_machine.specs.Machines.{PlainMachine}
use Rattle.source_machine.specs.Runs.{driven_nets}
use Rattle.source_machine.specs.Grounding.{used_nets, IsUndriven, IsUngrounded}
use Rattle.source_machine.specs.Dependencies.{dependencies_of}
use Rattle.source_machine.specs.LowestNets.{IsFirst, IsFirstMissing, IsUnknownIn}
use Rattle.source_machine.proofs.LowestNets.{IsFirst-same}
use Rattle.source_machine.proofs.OrderedEquations.{unknown_is_ungrounded, ungrounded_is_unknown}

-- a used net that is neither driven nor net 0 is undriven
pub undriven_is : (machine : PlainMachine) (found : Option ℕ) → IsFirstMissing (used_nets machine) (driven_nets machine ++ 0 ∷ []) found → IsFirst (IsUndriven machine) found
undriven_is machine found h =
    IsFirst-same (λ net. IsIn net (used_nets machine) × (IsIn net (driven_nets machine ++ 0 ∷ []) → ⊥)) (IsUndriven machine)
    (λ n p. (λ e. p.1 (IsIn-right n (driven_nets machine) (0 ∷ []) (inl (sym e))), p.0, λ i. p.1 (IsIn-left n (driven_nets machine) (0 ∷ []) i)))
    (λ n q. (q.1, λ i. elim (IsIn-behind n 0 (driven_nets machine) i) [ inl j ↦ q.2 j | inr e ↦ q.0 (sym e) ])) found h

-- an equation's net that the order doesn't make known is ungrounded
pub ungrounded_is : (machine : PlainMachine) (order : PlainOrder) (found : Option ℕ) → IsOrderOf (dependencies_of machine) order
    → IsFirst (IsUnknownIn (map (λ equation. equation.net) machine.equations) order.known) found → IsFirst (IsUngrounded machine) found
ungrounded_is machine order found o h =
    IsFirst-same (IsUnknownIn (map (λ equation. equation.net) machine.equations) order.known) (IsUngrounded machine)
    (λ n p. (p.0, unknown_is_ungrounded machine order o n p.1)) (λ n q. (q.0, ungrounded_is_unknown machine order o n q.1)) found h
