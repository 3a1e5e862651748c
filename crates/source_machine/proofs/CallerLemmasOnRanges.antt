-- The nets of a machine that fits are in range: the lemmas that the crates above may cite.
use Rattle.std.proofs.Common.{◌≡◌, ℕ, ◌+◌, ◌≤◌, ◌<◌, ◌⊎◌, inl, inr, ◌++◌, map, All, subst, arith}
use Rattle.std.specs.List.{flat_map}
use Rattle.pulse_ids.specs.Lists.{IsIn}
use Rattle.pulse_ids.proofs.CallerLemmas.{IsIn-append, IsIn-left, IsIn-right, IsIn-from_map, IsIn-from_flat_map, All-IsIn}
use Rattle.source_machine.specs.Machines.{PlainLatch, PlainEquation, PlainMachine}
use Rattle.source_machine.specs.Fitting.{Fits, IsNumbered, EquationFits, LatchFits, LiteralFits}
use Rattle.source_machine.specs.Runs.{driven_nets}
use Rattle.source_machine.specs.Grounding.{cube_nets, used_nets}
use Rattle.source_machine.specs.Dependencies.{start_nets}

-- what is driven is numbered
pub driven_numbered : (machine : PlainMachine) → Fits machine → (net : ℕ) → IsIn net (driven_nets machine) → IsNumbered machine.nets net
driven_numbered machine fits net h = ends (IsIn-append net machine.inputs _ h)
  where
    of_latches : (latch : PlainLatch) → IsIn latch machine.latches → latch.out ≡ net → IsNumbered machine.nets net
    of_latches latch i e =
        subst (IsNumbered machine.nets) e (All-IsIn (LatchFits machine.nets) latch machine.latches fits.nets_fit.latches_fit i).0

    of_equations : (equation : PlainEquation) → IsIn equation machine.equations → equation.net ≡ net → IsNumbered machine.nets net
    of_equations equation i e =
        subst (IsNumbered machine.nets) e (All-IsIn (EquationFits machine.nets) equation machine.equations fits.nets_fit.equations_fit i).0

    inside : IsIn net (map (λ latch. latch.out) machine.latches) ⊎ IsIn net (map (λ equation. equation.net) machine.equations) → IsNumbered machine.nets net
    inside (inl i) = let r = IsIn-from_map (λ latch. latch.out) net machine.latches i in of_latches r.0 r.1 r.2
    inside (inr i) =
        let r = IsIn-from_map (λ equation. equation.net) net machine.equations i in of_equations r.0 r.1 r.2

    ends : IsIn net machine.inputs ⊎ IsIn net (map (λ latch. latch.out) machine.latches ++ map (λ equation. equation.net) machine.equations) → IsNumbered machine.nets net
    ends (inl i) = All-IsIn (IsNumbered machine.nets) net machine.inputs fits.nets_fit.inputs_fit i
    ends (inr i) = inside (IsIn-append net (map (λ latch. latch.out) machine.latches) _ i)

-- what is used is numbered or net 0
pub used_in_range : (machine : PlainMachine) → Fits machine → (net : ℕ) → IsIn net (used_nets machine) → net ≤ machine.nets
used_in_range machine fits net h = ends (IsIn-append net (flat_map cube_nets machine.equations) _ h)
  where
    of_cubes : IsIn net (flat_map cube_nets machine.equations) → net ≤ machine.nets
    of_cubes i =
        let e = IsIn-from_flat_map cube_nets net machine.equations i in
        let r = IsIn-from_flat_map (map (λ literal. literal.net)) net e.0.cubes e.2 in
        let l = IsIn-from_map (λ literal. literal.net) net r.0 r.2 in
        let equation = All-IsIn (EquationFits machine.nets) e.0 machine.equations fits.nets_fit.equations_fit e.1 in
        let cube = All-IsIn (All (LiteralFits machine.nets)) r.0 e.0.cubes equation.1 r.1 in
        subst (λ n. n ≤ machine.nets) l.2 (All-IsIn (LiteralFits machine.nets) l.0 r.0 cube l.1)

    of_next : IsIn net (map (λ latch. latch.next.net) machine.latches) → net ≤ machine.nets
    of_next i =
        let l = IsIn-from_map (λ latch. latch.next.net) net machine.latches i in
        subst (λ n. n ≤ machine.nets) l.2 (All-IsIn (LatchFits machine.nets) l.0 machine.latches fits.nets_fit.latches_fit l.1).1

    of_outputs : IsIn net (map (λ literal. literal.net) machine.outputs) → net ≤ machine.nets
    of_outputs i =
        let l = IsIn-from_map (λ literal. literal.net) net machine.outputs i in
        subst (λ n. n ≤ machine.nets) l.2 (All-IsIn (LiteralFits machine.nets) l.0 machine.outputs fits.nets_fit.outputs_fit l.1)

    inside : IsIn net (map (λ latch. latch.next.net) machine.latches) ⊎ IsIn net (map (λ literal. literal.net) machine.outputs) → net ≤ machine.nets
    inside (inl i) = of_next i
    inside (inr i) = of_outputs i

    ends : IsIn net (flat_map cube_nets machine.equations) ⊎ IsIn net (map (λ latch. latch.next.net) machine.latches ++ map (λ literal. literal.net) machine.outputs) → net ≤ machine.nets
    ends (inl i) = of_cubes i
    ends (inr i) = inside (IsIn-append net (map (λ latch. latch.next.net) machine.latches) _ i)

module _ (machine : PlainMachine) (fits : Fits machine) where
  pub equation_in_range : (net : ℕ) → IsIn net (map (λ equation. equation.net) machine.equations) → net < machine.nets + 1
  equation_in_range net i =
      let r = driven_numbered machine fits net (IsIn-right net machine.inputs _ (IsIn-right net (map (λ latch. latch.out) machine.latches) _ i)) in omega arith

  pub driven_fit : (net : ℕ) → IsIn net (driven_nets machine) → net < machine.nets + 1
  driven_fit net i = let n = driven_numbered machine fits net i in omega arith

  pub used_fit : (net : ℕ) → IsIn net (used_nets machine) → net < machine.nets + 1
  used_fit net i = let n = used_in_range machine fits net i in omega arith

  pub start_fit : (net : ℕ) → IsIn net (start_nets machine) → net < machine.nets + 1
  start_fit net (inl e) = omega arith
  start_fit net (inr i) = elim (IsIn-append net machine.inputs _ i) [
    | inl j ↦ driven_fit net (IsIn-left net machine.inputs _ j)
    | inr j ↦ driven_fit net (IsIn-right net machine.inputs _ (IsIn-left net (map (λ latch. latch.out) machine.latches) _ j))
  ]
