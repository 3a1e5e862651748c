-- What a rail needs at once is found.
use Rattle.std.proofs.Common.{◌≡◌, ◌≢◌, ℕ, zero, suc, ◌<◌, ◌+◌, [], ◌∷◌, map, length, slice_get, Some, true, refl, sym, subst, arith, Contains}
use Rattle.pulse_ids.specs.Ids.{NodeLit}
use Rattle.pulse_ids.specs.declared.literals.Sign.{Sign}
use Rattle.pulse_ids.specs.declared.literals.Sign.TheVariants.{Pos, Neg}
use Rattle.cell_netlist.specs.declared.kinds.Ask.{Ask}
use Rattle.cell_netlist.specs.declared.kinds.Ask.TheVariants as asks
use Rattle.cell_netlist.specs.Asked.{signs_of}
use Rattle.aig_core.specs.declared.nodes.Node.{Node}
use Rattle.aig_core.specs.declared.nodes.Node.TheVariants.{Latch, And}
use Rattle.aig_core.specs.Graphs.{nodes_of, first_conjunction, count_of}
use Rattle.aig_core.specs.Laws.{ConjunctionsArePairs}
use Rattle.aig_core.specs.Tidy.{IsTidyPair}
use Rattle.aig_core.proofs.CallerLemmas.{slice_get_bound}
use Rattle.graph_build.specs.Built.{PlainBuilt, IsWithinGraph}
use Rattle.rail_demand.specs.declared.rails.NodeRail.{NodeRail}
use Rattle.pulse_ids.specs.Literals.{rail_sign}
use Rattle.rail_demand.specs.Rails.{literal_rail}
use Rattle.rail_demand.specs.Demands.{PlainDemand, is_needed, Needed, of_output, of_user, of_low, of_high, of_next}
use Rattle.rail_demand.specs.Searching.{Stage, FindsAll, IsStage, Steps, AreNeeded, IsClosedAt, HasAsked}
use Rattle.rail_demand.proofs.FoundRails.{steps_none, Each, IsInside, IsFound, IsNeededRail, Outcome, finds_all}

-- both literals of a conjunction are in the graph
pub literals_inside : ConjunctionsArePairs → (built : PlainBuilt) → IsWithinGraph built → (number : ℕ) (low high : NodeLit)
    → slice_get (nodes_of built.graph) number ≡ Some (And low high) → (low.id.number < count_of built.graph) × (high.id.number < count_of built.graph)
literals_inside pairs built within number low high e =
    let r = pairs built.graph number low high e in
    let tidy : IsTidyPair (first_conjunction built.graph + r.0) (record { low = low; high = high }) = within.kept.tidy.each r.0 (record { low = low; high = high }) r.2 in
    let bound : r.0 < length built.graph.pairs = slice_get_bound built.graph.pairs r.0 _ r.2 in
    (omega (arith, tidy.low_before, bound), omega (arith, tidy.high_before, bound))

-- what one rail's needs come to
pub record Expands (built : PlainBuilt) (rail : NodeRail) (before after : Stage) : Type 0 where
  pub steps : Steps built before after
  pub closed : IsClosedAt built after.demand rail
  pub needed : (ask : Ask) → Needed built ask rail.node.number rail.sign → AreNeeded built ask before.found → AreNeeded built ask after.found

module _ (built : PlainBuilt) (rail : NodeRail) (before after : Stage) (h : IsStage built before) where
  -- a literal's rail is found, by node and sign
  by_parts : (demand : PlainDemand) (known other : NodeLit) (sign : Sign) (node : ℕ) (side : Sign) → known ≡ other → other.id.number ≡ node → rail_sign other sign ≡ side
      → IsFound demand (literal_rail known sign) → is_needed demand node side ≡ true
  by_parts demand known other sign node side same n s f =
      subst (λ x. is_needed demand node x ≡ true) s
      (subst (λ x. is_needed demand x (rail_sign other sign) ≡ true) n (subst (λ (l : NodeLit). is_needed demand l.id.number (rail_sign l sign) ≡ true) same f))

  pub conjunction_expands : (low high : NodeLit) → slice_get (nodes_of built.graph) rail.node.number ≡ Some (And low high) → low.id.number < count_of built.graph
      → high.id.number < count_of built.graph → FindsAll (literal_rail low rail.sign ∷ literal_rail high rail.sign ∷ []) before after → Expands built rail before after
  conjunction_expands low high e l g f = record {
    steps = out.steps;
    closed = closed;
    needed = λ ask n all. out.needed ask (
      of_user _ _ rail.node.number rail.sign n (of_low low high e (refl, refl)),
      (of_user _ _ rail.node.number rail.sign n (of_high low high e (refl, refl)), tt),
    ) all;
  }
    where
      out : Outcome built (literal_rail low rail.sign ∷ literal_rail high rail.sign ∷ []) before after
      out = finds_all built (literal_rail low rail.sign ∷ literal_rail high rail.sign ∷ []) before after h (l, (g, tt)) f

      closed : IsClosedAt built after.demand rail
      closed node side (of_low low' high' e' r) = by_parts after.demand low low' rail.sign node side (cc (e, e')) r.0 r.1 out.found.0
      closed node side (of_high low' high' e' r) = by_parts after.demand high high' rail.sign node side (cc (e, e')) r.0 r.1 out.found.1.0
      closed node side (of_next latch next e' k r) = absurd (cc (e, e'))

  pub latch_expands : (latch : ℕ) (next : NodeLit) → slice_get (nodes_of built.graph) rail.node.number ≡ Some (Latch latch) → slice_get built.nexts latch ≡ Some next
      → next.id.number < count_of built.graph → FindsAll (literal_rail next Pos ∷ []) before after → Expands built rail before after
  latch_expands latch next e en l f = record {
    steps = out.steps;
    closed = closed;
    needed = λ ask n all. out.needed ask (of_user _ _ rail.node.number rail.sign n (of_next latch next e en (refl, refl)), tt) all;
  }
    where
      out : Outcome built (literal_rail next Pos ∷ []) before after
      out = finds_all built (literal_rail next Pos ∷ []) before after h (l, tt) f

      closed : IsClosedAt built after.demand rail
      closed node side (of_low low high e' r) = absurd (cc (e, e'))
      closed node side (of_high low high e' r) = absurd (cc (e, e'))
      closed node side (of_next latch' next' e' k r) =
          let same : latch ≡ latch' = cc (e, e') in
          let other : next ≡ next' = cc (en, k, same) in by_parts after.demand next next' Pos node side other r.0 r.1 out.found.0

  pub other_expands : (node : Node) → slice_get (nodes_of built.graph) rail.node.number ≡ Some node → ((low high : NodeLit) → node ≢ And low high)
      → ((latch : ℕ) → node ≢ Latch latch) → after ≡ before → Expands built rail before after
  other_expands node e conjunction latch same = record {
    steps = subst (Steps built before) (sym same) (steps_none built before h);
    closed = closed;
    needed = λ ask n all. subst (λ (s : Stage). AreNeeded built ask s.found) (sym same) all;
  }
    where
      closed : IsClosedAt built after.demand rail
      closed other side (of_low low high e' r) = absurd (conjunction low high (cc (e, e')))
      closed other side (of_high low high e' r) = absurd (conjunction low high (cc (e, e')))
      closed other side (of_next l next e' k r) = absurd (latch l (cc (e, e')))

-- the asked rails of an output
pub record Asks (built : PlainBuilt) (ask : Ask) (literal : NodeLit) (before after : Stage) : Type 0 where
  pub steps : Steps built before after
  pub found : HasAsked ask after.demand literal
  pub needed : AreNeeded built ask before.found → AreNeeded built ask after.found

has_asked : (ask : Ask) (demand : PlainDemand) (literal : NodeLit) → Each (IsFound demand) (map (literal_rail literal) (signs_of ask)) → HasAsked ask demand literal
has_asked asks.Pos demand literal f sign (zero, lt, e) = subst (λ s. IsFound demand (literal_rail literal s)) e f.0
has_asked asks.Pos demand literal f sign (suc k, lt, e) = absurd (omega arith)
has_asked asks.Neg demand literal f sign (zero, lt, e) = subst (λ s. IsFound demand (literal_rail literal s)) e f.0
has_asked asks.Neg demand literal f sign (suc k, lt, e) = absurd (omega arith)
has_asked asks.Both demand literal f sign (zero, lt, e) = subst (λ s. IsFound demand (literal_rail literal s)) e f.0
has_asked asks.Both demand literal f sign (suc zero, lt, e) = subst (λ s. IsFound demand (literal_rail literal s)) e f.1.0
has_asked asks.Both demand literal f sign (suc (suc k), lt, e) = absurd (omega arith)

pub asks_outputs : (built : PlainBuilt) (ask : Ask) (port : ℕ) (literal : NodeLit) (before after : Stage) → IsStage built before
    → slice_get built.outputs port ≡ Some literal → literal.id.number < count_of built.graph → FindsAll (map (literal_rail literal) (signs_of ask)) before after
    → Asks built ask literal before after
asks_outputs built ask port literal before after h e l f = record {
  steps = out.steps;
  found = has_asked ask after.demand literal out.found;
  needed = out.needed ask (each ask refl);
}
  where
    inside : (a : Ask) → Each (IsInside built) (map (literal_rail literal) (signs_of a))
    inside asks.Pos = (l, tt)
    inside asks.Neg = (l, tt)
    inside asks.Both = (l, (l, tt))

    out : Outcome built (map (literal_rail literal) (signs_of ask)) before after
    out = finds_all built (map (literal_rail literal) (signs_of ask)) before after h (inside ask) f

    needs : (sign : Sign) → Contains (signs_of ask) sign → IsNeededRail built ask (literal_rail literal sign)
    needs sign c = of_output _ _ port literal sign e c (refl, refl)

    contains : (a : Ask) → ask ≡ a → (sign : Sign) → Contains (signs_of a) sign → IsNeededRail built ask (literal_rail literal sign)
    contains a same sign c = needs sign (subst (λ x. Contains (signs_of x) sign) (sym same) c)

    each : (a : Ask) → ask ≡ a → Each (IsNeededRail built ask) (map (literal_rail literal) (signs_of a))
    each asks.Pos same = (contains asks.Pos same Pos (0, omega arith, refl), tt)
    each asks.Neg same = (contains asks.Neg same Neg (0, omega arith, refl), tt)
    each asks.Both same = (contains asks.Both same Pos (0, omega arith, refl), (contains asks.Both same Neg (1, omega arith, refl), tt))
