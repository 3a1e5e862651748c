-- What finding rails keeps and settles.
use Rattle.std.proofs.Common.{◌≡◌, ℕ, zero, suc, ◌*◌, ◌≤◌, ◌<◌, ◌⊎◌, inl, inr, List, [], ◌∷◌, ◌++◌, length, slice_get, Some, true, false, refl, sym, ◌∙◌, ap, subst, arith, append-nil, append_assoc, length-append}
use Rattle.std.proofs.lemmas.List.{length-replicate}
use Rattle.pulse_ids.specs.declared.literals.Sign.{Sign}
use Rattle.cell_netlist.specs.declared.kinds.Ask.{Ask}
use Rattle.aig_core.specs.Graphs.{count_of}
use Rattle.aig_core.proofs.CallerLemmas.{slice_get-left, slice_get-at, slice_get_bound}
use Rattle.graph_build.specs.Built.{PlainBuilt}
use Rattle.rail_demand.specs.declared.rails.NodeRail.{NodeRail}
use Rattle.rail_demand.specs.Demands.{PlainDemand, nodes_in, is_needed, Needed}
use Rattle.rail_demand.specs.Searching.{none_of, with_rail, Stage, HasRoom, Finds, again, first, FindsAll, IsStage, Steps, AreNeeded}
use Rattle.pulse_ids.specs.Lists.{zeros_in}
use Rattle.rail_demand.proofs.DemandBits.{zeros_in-replicate, none_needed, nodes-with_rail, paired-with_rail, needed_now, still_needed, needed_before, one_left_less}

-- a place in a list with one item more
pub place_in_more : {X : Type 0} (xs : List X) (y : X) (place : ℕ) (x : X) → slice_get (xs ++ y ∷ []) place ≡ Some x → (slice_get xs place ≡ Some x) ⊎ (y ≡ x)
place_in_more [] y zero x e = inr cc
place_in_more [] y (suc place) x e = absurd cc
place_in_more (z ∷ xs) y zero x e = inl e
place_in_more (z ∷ xs) y (suc place) x e = place_in_more xs y place x e

-- an item of the front
pub place_in_front : {X : Type 0} (xs ys : List X) (place : ℕ) (x : X) → slice_get xs place ≡ Some x → slice_get (xs ++ ys) place ≡ Some x
place_in_front xs ys place x e = slice_get-left xs ys place (slice_get_bound xs place x e) ∙ e

-- the last item
pub place_last : {X : Type 0} (xs : List X) (y : X) → slice_get (xs ++ y ∷ []) (length xs) ≡ Some y
place_last xs y = slice_get-at xs (y ∷ []) (length xs) 0 (omega arith)

abbrev pub found_first : Stage → NodeRail → Stage
found_first before rail = record { demand = with_rail before.demand rail.node.number rail.sign; found = before.found ++ rail ∷ []; room = before.room }

-- finding keeps the room and the nodes
pub finds_room : (before after : Stage) (rail : NodeRail) → HasRoom before → rail.node.number < nodes_in before.demand → Finds rail before after → HasRoom after
finds_room before after rail room lt (again h e) = subst HasRoom (sym e) room
finds_room before after rail room lt (first h e) = subst HasRoom (sym e) (record {
  paired = paired-with_rail before.demand rail.node.number rail.sign room.paired;
  few = omega (arith, room.few, one_left_less before.demand rail.node.number rail.sign room.paired lt h, length-append before.found (rail ∷ []));
})

pub finds_nodes : (before after : Stage) (rail : NodeRail) → Finds rail before after → nodes_in after.demand ≡ nodes_in before.demand
finds_nodes before after rail (again h e) = ap (λ s. nodes_in s.demand) e
finds_nodes before after rail (first h e) = ap (λ s. nodes_in s.demand) e ∙ nodes-with_rail before.demand rail.node.number rail.sign

pub steps_none : (built : PlainBuilt) (stage : Stage) → IsStage built stage → Steps built stage stage
steps_none built stage h = record { stage = h; same_room = refl; kept = λ node sign k. k; grown = ([], sym (append-nil stage.found)) }

pub steps_then : (built : PlainBuilt) (a b c : Stage) → Steps built a b → Steps built b c → Steps built a c
steps_then built a b c s t = record {
  stage = t.stage;
  same_room = t.same_room ∙ s.same_room;
  kept = λ node sign k. t.kept node sign (s.kept node sign k);
  grown = (s.grown.0 ++ t.grown.0, t.grown.1 ∙ ap (λ l. l ++ t.grown.0) s.grown.1 ∙ append_assoc a.found s.grown.0 t.grown.0);
}

module _ (built : PlainBuilt) (before : Stage) (rail : NodeRail) (h : IsStage built before) (inside : rail.node.number < count_of built.graph) where
  low : rail.node.number < nodes_in before.demand
  low = omega (arith, h.nodes)

  first_stage : is_needed before.demand rail.node.number rail.sign ≡ false → IsStage built (found_first before rail)
  first_stage new = record {
    nodes = nodes-with_rail before.demand rail.node.number rail.sign ∙ h.nodes;
    roomy = finds_room before (found_first before rail) rail h.roomy low (first new refl);
    inside = λ place other e. elim (place_in_more before.found rail place other e) [
      | inl k ↦ h.inside place other k
      | inr same ↦
          subst (λ (r : NodeRail). r.node.number < count_of built.graph) same inside
    ];
    listed = λ node sign k. listed node sign (needed_before before.demand rail.node.number rail.sign node sign k);
  }
    where
      listed : (node : ℕ) (sign : Sign) → ((rail.node.number ≡ node) × (rail.sign ≡ sign)) ⊎ (is_needed before.demand node sign ≡ true) → (place : ℕ) × (other : NodeRail)
          × (slice_get (before.found ++ rail ∷ []) place ≡ Some other) × (other.node.number ≡ node) × (other.sign ≡ sign)
      listed node sign (inl same) = (length before.found, rail, place_last before.found rail, same.0, same.1)
      listed node sign (inr k) = let l = h.listed node sign k in (l.0, l.1, place_in_front before.found (rail ∷ []) l.0 l.1 l.2, l.3, l.4)

  pub finds_steps : (after : Stage) → Finds rail before after → Steps built before after
  finds_steps after (again k e) = subst (Steps built before) (sym e) (steps_none built before h)
  finds_steps after (first new e) = subst (Steps built before) (sym e) (record {
    stage = first_stage new;
    same_room = refl;
    kept = still_needed before.demand rail.node.number rail.sign h.roomy.paired low;
    grown = (rail ∷ [], refl);
  })

  pub found_now : (after : Stage) → Finds rail before after → is_needed after.demand rail.node.number rail.sign ≡ true
  found_now after (again k e) = ap (λ s. is_needed s.demand rail.node.number rail.sign) e ∙ k
  found_now after (first new e) = ap (λ s. is_needed s.demand rail.node.number rail.sign) e ∙ needed_now before.demand rail.node.number rail.sign h.roomy.paired low

pub finds_needed : (built : PlainBuilt) (ask : Ask) (before after : Stage) (rail : NodeRail) → Needed built ask rail.node.number rail.sign
    → AreNeeded built ask before.found → Finds rail before after → AreNeeded built ask after.found
finds_needed built ask before after rail n all (again k e) = subst (λ (s : Stage). AreNeeded built ask s.found) (sym e) all
finds_needed built ask before after rail n all (first new e) = subst (λ (s : Stage). AreNeeded built ask s.found) (sym e) more
  where
    more : AreNeeded built ask (before.found ++ rail ∷ [])
    more place other i = elim (place_in_more before.found rail place other i) [
      | inl k ↦ all place other k
      | inr same ↦ subst (λ (r : NodeRail). Needed built ask r.node.number r.sign) same n
    ]

-- it holds of each rail
abbrev pub Each : (NodeRail → Type 0) → List NodeRail → Type 0
Each P [] = Unit {0}
Each P (rail ∷ rails) = P rail × Each P rails

abbrev pub IsInside : PlainBuilt → NodeRail → Type 0
IsInside built rail = rail.node.number < count_of built.graph

abbrev pub IsFound : PlainDemand → NodeRail → Type 0
IsFound demand rail = is_needed demand rail.node.number rail.sign ≡ true

abbrev pub IsNeededRail : PlainBuilt → Ask → NodeRail → Type 0
IsNeededRail built ask rail = Needed built ask rail.node.number rail.sign

-- all rails are found, and they are needed if these are
pub record Outcome (built : PlainBuilt) (rails : List NodeRail) (before after : Stage) : Type 0 where
  pub steps : Steps built before after
  pub found : Each (IsFound after.demand) rails
  pub needed : (ask : Ask) → Each (IsNeededRail built ask) rails → AreNeeded built ask before.found → AreNeeded built ask after.found

pub finds_all : (built : PlainBuilt) (rails : List NodeRail) (before after : Stage) → IsStage built before → Each (IsInside built) rails → FindsAll rails before after
    → Outcome built rails before after
finds_all built [] before after h inside e = subst (Outcome built [] before) (sym e) (record { steps = steps_none built before h; found = tt; needed = λ ask each all. all })
finds_all built (rail ∷ rails) before after h inside f =
    let step = finds_steps built before rail h inside.0 f.0 f.1 in
    let rest = finds_all built rails f.0 after step.stage inside.1 f.2 in
    record {
      steps = steps_then built before f.0 after step rest.steps;
      found = (rest.steps.kept rail.node.number rail.sign (found_now built before rail h inside.0 f.0 f.1), rest.found);
      needed = λ ask each all. rest.needed ask each.1 (finds_needed built ask before f.0 rail each.0 all f.1);
    }

-- nothing is found at first
pub begins : (built : PlainBuilt) (stage : Stage) (nodes : ℕ) → nodes ≡ count_of built.graph → stage.demand ≡ none_of nodes → stage.found ≡ [] → 2 * nodes ≤ stage.room → IsStage built stage
begins built stage nodes en ed ef room = record {
  nodes = ap nodes_in ed ∙ length-replicate nodes false ∙ en;
  roomy = record {
    paired = ap (λ (d : PlainDemand). length d.negative) ed ∙ sym (ap nodes_in ed);
    few = omega (
      arith,
      room,
      ap (λ (d : PlainDemand). zeros_in d.positive) ed,
      ap (λ (d : PlainDemand). zeros_in d.negative) ed,
      zeros_in-replicate nodes,
      ap (λ (l : List NodeRail). length l) ef,
    );
  };
  inside = λ place rail e. let none : slice_get {X = NodeRail} [] place ≡ Some rail = ap (λ (l : List NodeRail). slice_get l place) (sym ef) ∙ e in absurd (no_place place rail none);
  listed = λ node sign k. absurd (none_needed nodes node sign (ap (λ (d : PlainDemand). is_needed d node sign) (sym ed) ∙ k));
}
  where
    no_place : (place : ℕ) (rail : NodeRail) → slice_get {X = NodeRail} [] place ≡ Some rail → ⊥
    no_place place rail e = absurd cc
