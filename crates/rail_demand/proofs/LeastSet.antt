-- The needed rails are the least set: what holds of the asked rails and goes on to what a rail needs at once holds of each.
use Rattle.std.proofs.Common.{◌≡◌, ℕ, ◌<◌, slice_get, Some, refl, subst, Contains}
use Rattle.pulse_ids.specs.Ids.{NodeLit}
use Rattle.pulse_ids.specs.declared.literals.Sign.{Sign}
use Rattle.cell_netlist.specs.declared.kinds.Ask.{Ask}
use Rattle.cell_netlist.specs.Asked.{signs_of}
use Rattle.aig_core.specs.Graphs.{count_of}
use Rattle.aig_core.specs.Laws.{ConjunctionsArePairs}
use Rattle.graph_build.specs.Built.{PlainBuilt}
use Rattle.pulse_ids.specs.Literals.{rail_sign}
use Rattle.rail_demand.specs.Demands.{Needed, of_output, of_user, NeedsAtOnce, of_low, of_high, of_next}
use Rattle.rail_demand.specs.Laws.{NeededAreInside, DemandsHaveOutputs, DemandsAreClosed}
use Rattle.rail_demand.proofs.ExpandedRails.{literals_inside}

module _ (built : PlainBuilt) (ask : Ask) (P : ℕ → Sign → Type 0)
    (outputs : (port : ℕ) (literal : NodeLit) → slice_get built.outputs port ≡ Some literal → (sign : Sign) → Contains (signs_of ask) sign
    → P literal.id.number (rail_sign literal sign))
    (step : (user : ℕ) (sign : Sign) → P user sign → (node : ℕ) (side : Sign) → NeedsAtOnce built user sign node side → P node side) where
  pub Needed-least : (node : ℕ) (side : Sign) → Needed built ask node side → P node side
  Needed-least _ _ (of_output node side port literal sign e c r) =
      subst (λ s. P node s) r.1 (subst (λ n. P n (rail_sign literal sign)) r.0 (outputs port literal e sign c))
  Needed-least _ _ (of_user node side user sign n at_once) = step user sign (Needed-least user sign n) node side at_once

pub needed_inside : ConjunctionsArePairs → NeededAreInside
needed_inside pairs built ask within =
    Needed-least built ask (λ node sign. node < count_of built.graph) (λ port literal e sign c. within.outputs_within port literal e) step
  where
    step : (user : ℕ) (sign : Sign) → user < count_of built.graph → (node : ℕ) (side : Sign) → NeedsAtOnce built user sign node side → node < count_of built.graph
    step user sign low node side (of_low l h e r) =
        subst (λ n. n < count_of built.graph) r.0 (literals_inside pairs built within user l h e).0
    step user sign low node side (of_high l h e r) =
        subst (λ n. n < count_of built.graph) r.0 (literals_inside pairs built within user l h e).1
    step user sign low node side (of_next latch next e k r) =
        subst (λ n. n < count_of built.graph) r.0 (within.nexts_within latch next k)

pub demands_have_outputs : DemandsHaveOutputs
demands_have_outputs built ask demand within d port literal e sign c =
    (d.exact literal.id.number (within.outputs_within port literal e) (rail_sign literal sign)).1 (of_output _ _ port literal sign e c (refl, refl))

pub demands_are_closed : ConjunctionsArePairs → DemandsAreClosed
demands_are_closed pairs built ask demand within d user low sign k node side n =
    let needed = of_user node side user sign ((d.exact user low sign).0 k) n in
    let inside = needed_inside pairs built ask within node side needed in (inside, (d.exact node inside side).1 needed)
