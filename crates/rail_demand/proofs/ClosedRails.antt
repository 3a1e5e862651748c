-- Rails that are closed under what they need at once, and the least such.
use Rattle.std.proofs.Common.{◌≡◌, ℕ, ◌+◌, ◌<◌, ◌≤◌, ◌⊎◌, inl, inr, List, [], length, slice_get, Some, true, sym, ◌∙◌, ap, subst, arith, length-append}
use Rattle.pulse_ids.specs.Ids.{NodeLit}
use Rattle.pulse_ids.specs.declared.literals.Sign.{Sign}
use Rattle.cell_netlist.specs.declared.kinds.Ask.{Ask}
use Rattle.aig_core.proofs.CallerLemmas.{slice_get-left, slice_get_bound}
use Rattle.graph_build.specs.Built.{PlainBuilt}
use Rattle.rail_demand.specs.declared.rails.NodeRail.{NodeRail}
use Rattle.rail_demand.specs.Demands.{is_needed, Needed, NeedsAtOnce, IsDemand}
use Rattle.rail_demand.specs.Searching.{Stage, IsStage, Steps, AreNeeded, IsClosedAt, IsClosedBefore, HasAsked, HasOutputs}
use Rattle.std.proofs.lemmas.Bool.{cases_eq}
use Rattle.rail_demand.proofs.LeastSet.{Needed-least}

pub longer : (built : PlainBuilt) (before after : Stage) → Steps built before after → length before.found ≤ length after.found
longer built before after s = omega (arith, ap (λ l. length l) s.grown.1, length-append before.found s.grown.0)

-- a rail stays at its place
stays : (built : PlainBuilt) (before after : Stage) → Steps built before after → (place : ℕ) → place < length before.found → slice_get after.found place ≡ slice_get before.found place
stays built before after s place lt =
    ap (λ l. slice_get l place) s.grown.1 ∙ slice_get-left before.found s.grown.0 place lt

-- one rail more is closed
pub closed_more : (built : PlainBuilt) (before after : Stage) (done : ℕ) (rail : NodeRail) → done < length before.found → slice_get before.found done ≡ Some rail
    → Steps built before after → IsClosedAt built after.demand rail → IsClosedBefore built before done → IsClosedBefore built after (done + 1)
closed_more built before after done rail lt e s here earlier place other low k = go (cases_eq place done)
  where
    there : place < length before.found → slice_get before.found place ≡ Some other
    there l = sym (stays built before after s place l) ∙ k

    go : (place ≡ done) ⊎ (place ≡ done → ⊥) → IsClosedAt built after.demand other
    go (inl same) =
        let item : Some rail ≡ Some other = sym e ∙ ap (slice_get before.found) (sym same) ∙ there (omega (arith, same)) in
        let rails : rail ≡ other = cc in subst (IsClosedAt built after.demand) rails here
    go (inr ne) =
        λ node side n. s.kept node side (earlier place other (omega (arith, ne, low)) (there (omega (arith, ne, low))) node side n)

-- the outputs below one number more
pub outputs_more : (built : PlainBuilt) (ask : Ask) (before after : Stage) (port : ℕ) (literal : NodeLit) → slice_get built.outputs port ≡ Some literal
    → Steps built before after → HasAsked ask after.demand literal → HasOutputs built ask before.demand port → HasOutputs built ask after.demand (port + 1)
outputs_more built ask before after port literal e s here earlier place other low k = go (cases_eq place port)
  where
    go : (place ≡ port) ⊎ (place ≡ port → ⊥) → HasAsked ask after.demand other
    go (inl same) =
        let item : Some literal ≡ Some other = sym e ∙ ap (slice_get built.outputs) (sym same) ∙ k in
        let literals : literal ≡ other = cc in subst (HasAsked ask after.demand) literals here
    go (inr ne) = λ sign c. s.kept _ _ (earlier place other (omega (arith, ne, low)) k sign c)

module _ (built : PlainBuilt) (ask : Ask) (stage : Stage) (h : IsStage built stage) (outputs : HasOutputs built ask stage.demand (length built.outputs))
    (closed : IsClosedBefore built stage (length stage.found)) where
  -- each needed rail is found
  all_found : (node : ℕ) (side : Sign) → Needed built ask node side → is_needed stage.demand node side ≡ true
  all_found =
      Needed-least built ask (λ node side. is_needed stage.demand node side ≡ true) (λ port literal e. outputs port literal (slice_get_bound built.outputs port literal e) e) step
    where
      step : (user : ℕ) (sign : Sign) → is_needed stage.demand user sign ≡ true → (node : ℕ) (side : Sign) → NeedsAtOnce built user sign node side → is_needed stage.demand node side ≡ true
      step user sign k node side at_once =
          let l = h.listed user sign k in
          closed l.0 l.1 (slice_get_bound stage.found l.0 l.1 l.2) l.2 node side
          (subst (λ s. NeedsAtOnce built l.1.node.number s node side) (sym l.4) (subst (λ u. NeedsAtOnce built u sign node side) (sym l.3) at_once))

  -- each found rail is needed
  only_needed : AreNeeded built ask stage.found → (node : ℕ) (side : Sign) → is_needed stage.demand node side ≡ true → Needed built ask node side
  only_needed all node side k =
      let l = h.listed node side k in
      subst (λ s. Needed built ask node s) l.4 (subst (λ n. Needed built ask n l.1.sign) l.3 (all l.0 l.1 l.2))

  pub is_demand : AreNeeded built ask stage.found → IsDemand built ask stage.demand
  is_demand all = record {
    nodes = h.nodes;
    exact = λ node lt sign. (only_needed all node sign, all_found node sign);
  }

-- the outputs keep their rails
pub outputs_stay : (built : PlainBuilt) (ask : Ask) (before after : Stage) (count : ℕ) → Steps built before after → HasOutputs built ask before.demand count
    → HasOutputs built ask after.demand count
outputs_stay built ask before after count s outputs port literal low e sign c = s.kept _ _ (outputs port literal low e sign c)

-- where nothing is found, all that is found is needed
pub none_found : (built : PlainBuilt) (ask : Ask) (stage : Stage) → stage.found ≡ [] → AreNeeded built ask stage.found
none_found built ask stage none place rail e = absurd (no_place place (ap (λ (l : List NodeRail). slice_get l place) (sym none) ∙ e))
  where
    no_place : (at : ℕ) → slice_get {X = NodeRail} [] at ≡ Some rail → ⊥
    no_place at e = absurd cc
