-- At its stage each conjunction's rail can be made.
use Rattle.std.proofs.Common.{◌≡◌, ◌≤◌, ◌<◌, ◌+◌, ◌-◌, ◌/◌, ℕ, Bool, true, false, Option, Some, List, [], ◌∷◌, ◌++◌, map, length, slice_get, ap, sym, ◌∙◌, refl, arith, if◌then◌else◌, ◌==◌}
use Rattle.std.proofs.lemmas.Bool.{eq-eqb}
use Rattle.pulse_ids.specs.Ids.{NodeLit}
use Rattle.pulse_ids.specs.Literals.{flipped, code_of}
use Rattle.pulse_ids.specs.declared.literals.Sign.{Sign}
use Rattle.pulse_ids.specs.declared.literals.Sign.TheVariants.{Pos, Neg}
use Rattle.cell_netlist.specs.declared.kinds.Ask.{Ask}
use Rattle.pulse_ids.specs.Lists.{occurrences}
use Rattle.aig_core.specs.declared.nodes.Node.{Node}
use Rattle.aig_core.specs.Graphs.{PlainGraph, nodes_of, count_of, first_conjunction}
use Rattle.aig_core.specs.Pairs.{literal_code}
use Rattle.aig_core.specs.Tidy.{IsTidy, IsKept}
use Rattle.aig_core.specs.Laws.{ConjunctionsAreLast}
use Rattle.aig_core.proofs.CallerLemmas.{slice_get_item}
use Rattle.graph_build.specs.Built.{PlainBuilt}
use Rattle.rail_demand.specs.Demands.{PlainDemand}
use Rattle.rail_mapper.specs.Drafts.{PlainDraft, leaves_of, readers_of}
use Rattle.rail_mapper.specs.Labels.{rail_number, literal_number, sign_in}
use Rattle.rail_mapper.specs.Plans.{fan_in, left_from, uses}
use Rattle.rail_mapper.specs.Stages.{IsStage, IsReady, IsPlan}
use Rattle.rail_mapper.proofs.StageSteps.{node_of, sign_of, next_uses, literal_below, leaves_inside}
use Rattle.rail_mapper.proofs.Values.{rail_low}
use Rattle.aig_core.specs.declared.nodes.Node.TheVariants as nodes

-- equal rails of one sign are of equal literals
pub one_rail : (a b : NodeLit) (sign : Sign) → literal_number a sign ≡ literal_number b sign → literal_code a ≡ literal_code b
one_rail a b sign e = by a.negated b.negated sign e
  where
    by : (p q : Bool) (s : Sign) → rail_number a.id.number (if p then flipped s else s) ≡ rail_number b.id.number (if q then flipped s else s) → code_of a.id.number p ≡ code_of b.id.number q
    by true true Pos e = omega arith
    by true true Neg e = omega arith
    by false false Pos e = omega arith
    by false false Neg e = omega arith
    by true false Pos e = absurd (omega arith)
    by true false Neg e = absurd (omega arith)
    by false true Pos e = absurd (omega arith)
    by false true Neg e = absurd (omega arith)

-- the conjunction of a node
pub record HasPair (graph : PlainGraph) (node : ℕ) : Type 0 where
  pub low : NodeLit
  pub high : NodeLit
  pub stands : slice_get (nodes_of graph) node ≡ Some (nodes.And low high)
  pub low_before : low.id.number < node
  pub high_before : high.id.number < node
  pub apart : (sign : Sign) → literal_number low sign ≡ literal_number high sign → ⊥

pub pair_there : (graph : PlainGraph) (node : ℕ) → ConjunctionsAreLast → IsTidy graph → first_conjunction graph ≤ node → node < count_of graph → HasPair graph node
pair_there graph node law tidy low high =
    let is : first_conjunction graph + (node - first_conjunction graph) ≡ node = omega arith in
    let pair = slice_get_item graph.pairs (node - first_conjunction graph) (omega arith) in
    let t = tidy.each (node - first_conjunction graph) pair.0 pair.1 in
    record {
      low = pair.0.low;
      high = pair.0.high;
      stands = (law graph node pair.0.low pair.0.high).1 (node - first_conjunction graph, sym is, pair.1);
      low_before = let b = t.low_before in omega arith;
      high_before = let b = t.high_before in omega arith;
      apart = λ sign e. let o = t.ordered in let k = one_rail pair.0.low pair.0.high sign e in absurd (omega arith);
    }

pub stage_ready : (built : PlainBuilt) (demand : PlainDemand) (ask : Ask) (node : ℕ) (sign : Sign) (draft : PlainDraft) → ConjunctionsAreLast → IsKept built.graph → IsPlan built demand ask
    → first_conjunction built.graph ≤ node → node < count_of built.graph
    → IsStage built demand ask (rail_number node sign) draft → IsReady built node sign draft
stage_ready built demand ask node sign draft law kept plan first inside h = record {
  low = pair.low;
  high = pair.high;
  stands = pair.stands;
  low_before = pair.low_before;
  high_before = pair.high_before;
  apart = pair.apart sign;
  inside = leaves_inside draft [] (map (λ (p : ℕ × ℕ). 0) draft.pending) (left_from built demand ask (rail_number node sign)) h.is_draft;
  room = h.room;
  place = omega (arith, h.stock_size, rail_low built node sign inside);
  counter = omega (arith, h.counts_size, rail_low built node sign inside);
  few = omega (arith, kept.inputs_fit, kept.latches_fit, kept.pairs_fit);
  low_leaf = λ some. leaf (literal_number pair.low sign) (literal_below pair.low sign node sign pair.low_before)
      (let e = first_two some in let k : (literal_number pair.low sign == literal_number pair.low sign) ≡ true = eq-eqb (literal_number pair.low sign) (literal_number pair.low sign) refl in
      rw (e, k) (omega arith));
  high_leaf = λ some. leaf (literal_number pair.high sign) (literal_below pair.high sign node sign pair.high_before)
      (let e = first_two some in let k : (literal_number pair.high sign == literal_number pair.high sign) ≡ true = eq-eqb (literal_number pair.high sign) (literal_number pair.high sign) refl in
      rw (e, k) (omega arith));
}
  where
    pair : HasPair built.graph node
    pair = pair_there built.graph node law kept.tidy first inside

    first_two : 1 ≤ readers_of draft (rail_number node sign)
        → left_from built demand ask (rail_number node sign) ≡ literal_number pair.low sign ∷ literal_number pair.high sign ∷ left_from built demand ask (rail_number node sign + 1)
    first_two some =
        let low = rail_low built node sign inside in
        let u : 1 ≤ occurrences (rail_number node sign) (uses built demand ask) = omega (arith, h.planned (rail_number node sign) (omega arith)) in
        next_uses built demand ask (rail_number node sign) low ∙ ap (λ (l : List ℕ). l ++ left_from built demand ask (rail_number node sign + 1))
        (ap (λ (b : Bool). if b then fan_in (slice_get (nodes_of built.graph) (rail_number node sign / 2)) (sign_in (rail_number node sign)) else []) ((plan (rail_number node sign) low).1 u)
        ∙ ap (λ (k : ℕ). fan_in (slice_get (nodes_of built.graph) k) (sign_in (rail_number node sign))) (node_of node sign) ∙ ap (fan_in (slice_get (nodes_of built.graph) node)) (sign_of node sign)
        ∙ ap (λ (o : Option Node). fan_in o sign) pair.stands)

    leaf : (rail : ℕ) → rail < rail_number node sign → 1 ≤ occurrences rail (left_from built demand ask (rail_number node sign)) → 1 ≤ length (leaves_of draft rail)
    leaf rail low some = let e = h.is_draft.exact rail in let z = h.is_at.spread rail low in omega arith
