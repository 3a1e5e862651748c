-- The literals of outputs and next states, once all equations are built.
use Rattle.std.proofs.Common.{◌≡◌, ◌≢◌, ℕ, zero, suc, ◌+◌, ◌≤◌, ◌<◌, ◌⊎◌, inl, inr, List, [], ◌∷◌, ◌++◌, Bool, not, if◌then◌else◌, All, length, map, get_or, refl, sym, ◌∙◌, ap, subst, arith}
use Rattle.std.specs.Prelude.{slice_index}
use Rattle.std.specs.List.{flat_map}
use Rattle.std.proofs.lemmas.List.{get_or-map, length-map}
use Rattle.std.proofs.lemmas.List.Elements.{All-head, All-tail}
use Rattle.pulse_ids.specs.Ids.{Lit, NodeLit}
use Rattle.aig_core.specs.Graphs.{PlainGraph, count_of}
use Rattle.aig_core.specs.Tidy.{IsKept}
use Rattle.aig_core.specs.Values.{value_of}
use Rattle.source_machine.specs.declared.machines.Latch.{Latch}
use Rattle.source_machine.specs.declared.machines.RawMachine.{RawMachine}
use Rattle.source_machine.specs.Machines.{PlainMachine, PlainLiteral, literal_of, latch_of, machine_of}
use Rattle.pulse_ids.specs.Lists.{IsIn, bit_at}
use Rattle.source_machine.specs.Fitting.{Fits, LiteralFits, size_of}
use Rattle.source_machine.specs.Runs.{Agrees, literal_value, output_bits, next_state}
use Rattle.source_machine.specs.Grounding.{cube_nets, used_nets, IsWellFounded}
use Rattle.graph_build.specs.Built.{AreWithin, IsWithinGraph, IsGraphOf}
use Rattle.graph_build.specs.Literals.{node_literal, HasLiterals}
use Rattle.graph_build.specs.Orders.{equation_nets, IsBuilt, IsBuildOrder}
use Rattle.graph_build.proofs.LiteralValues.{node_literal_value, node_literal_within}
use Rattle.pulse_ids.proofs.CallerLemmas.{IsIn-append, IsIn-left, IsIn-right, IsIn-map, IsIn-at, index_of}
use Rattle.std.proofs.lemmas.Bool.{cases_eq}
use Rattle.graph_build.proofs.NetLiterals.{latch_fits}

-- each net that is used has its literal in the end
pub used_built : (machine : PlainMachine) (order : List ℕ) → IsWellFounded machine → IsBuildOrder machine order → (net : ℕ) → IsIn net (used_nets machine) → IsBuilt machine order net
used_built machine order founded h net i = go (cases_eq net 0)
  where
    of_equation : IsIn net (equation_nets machine) → IsBuilt machine order net
    of_equation j =
        let p = index_of net (equation_nets machine) 0 j in
        inr (subst (λ n. IsIn n (map (slice_index (equation_nets machine)) order)) p.2
        (IsIn-map (slice_index (equation_nets machine)) p.0 order (h.complete p.0 (omega (arith, p.1, length-map machine.equations (λ equation. equation.net))))))

    of_rest : IsIn net (map (λ latch. latch.out) machine.latches) ⊎ IsIn net (equation_nets machine) → IsBuilt machine order net
    of_rest (inl j) = inl (inr (IsIn-right net machine.inputs _ j))
    of_rest (inr j) = of_equation j

    of_driven : IsIn net machine.inputs ⊎ IsIn net (map (λ latch. latch.out) machine.latches ++ equation_nets machine) → IsBuilt machine order net
    of_driven (inl j) = inl (inr (IsIn-left net machine.inputs _ j))
    of_driven (inr j) = of_rest (IsIn-append net (map (λ latch. latch.out) machine.latches) _ j)

    go : (net ≡ 0) ⊎ (net ≢ 0) → IsBuilt machine order net
    go (inl e) = inl (inl (sym e))
    go (inr ne) = of_driven (IsIn-append net machine.inputs _ (founded.all_driven net ne i))

within_mapped : {X : Type 0} (f : X → NodeLit) (graph : PlainGraph) (xs : List X) → All (λ x. (f x).id.number < count_of graph) xs → AreWithin graph (map f xs)
within_mapped f graph [] all place literal e = absurd (cc)
within_mapped f graph (x ∷ xs) all zero literal e =
    let same : f x ≡ literal = cc in subst (λ l. l.id.number < count_of graph) same (All-head (λ y. (f y).id.number < count_of graph) x xs all)
within_mapped f graph (x ∷ xs) all (suc place) literal e =
    within_mapped f graph xs (All-tail (λ y. (f y).id.number < count_of graph) x xs all) place literal e

same_mapped : {X Y Z : Type 0} (f : X → Y) (k : X → Z) (a : Y → Bool) (b : Z → Bool) (xs : List X) → All (λ x. a (f x) ≡ b (k x)) xs → map a (map f xs) ≡ map b (map k xs)
same_mapped f k a b [] all = refl
same_mapped f k a b (x ∷ xs) all =
    let head : a (f x) ≡ b (k x) = All-head (λ y. a (f y) ≡ b (k y)) x xs all in
    let tail : map a (map f xs) ≡ map b (map k xs) = same_mapped f k a b xs (All-tail (λ y. a (f y) ≡ b (k y)) x xs all) in cc

map_after : {X Y Z : Type 0} (f : X → Y) (g : Y → Z) (xs : List X) → map g (map f xs) ≡ map (λ x. g (f x)) xs
map_after f g [] = refl
map_after f g (x ∷ xs) = ap (λ l. g (f x) ∷ l) (map_after f g xs)

pub inits_mapped : (latches : List Latch) → map (λ (latch : Latch). latch.init) latches ≡ map (λ latch. latch.init) (map latch_of latches)
inits_mapped latches = sym (map_after latch_of (λ latch. latch.init) latches)

module _ (raw : RawMachine) (fits : Fits (machine_of raw)) where
  abbrev machine : PlainMachine
  machine = machine_of raw

  pub outputs_low : (width : ℕ) → width ≡ raw.nets + 1 → All (λ (output : Lit). output.id.number < width) raw.outputs.items
  outputs_low width e i d lt =
      let low : LiteralFits raw.nets (literal_of (get_or raw.outputs.items i d)) =
      subst (LiteralFits raw.nets) (get_or-map literal_of raw.outputs.items i d (literal_of d) lt)
      (fits.nets_fit.outputs_fit i (literal_of d) (omega (arith, lt, length-map raw.outputs.items literal_of))) in
      omega (arith, low, e)

  pub nexts_low : (width : ℕ) → width ≡ raw.nets + 1 → All (λ (latch : Latch). latch.next.id.number < width) raw.latches.items
  nexts_low width e i d lt = omega (arith, (latch_fits raw fits i d lt).1, e)

  output_used : (i : ℕ) (d : Lit) → i < length raw.outputs.items → IsIn (get_or raw.outputs.items i d).id.number (used_nets machine)
  output_used i d lt =
      IsIn-right (get_or raw.outputs.items i d).id.number (flat_map cube_nets machine.equations) _
      (IsIn-right (get_or raw.outputs.items i d).id.number (map (λ latch. latch.next.net) machine.latches) _
      (IsIn-map (λ literal. literal.net) (literal_of (get_or raw.outputs.items i d)) machine.outputs
      (IsIn-map literal_of (get_or raw.outputs.items i d) raw.outputs.items (IsIn-at raw.outputs.items i d lt))))

  next_used : (i : ℕ) (d : Latch) → i < length raw.latches.items → IsIn (get_or raw.latches.items i d).next.id.number (used_nets machine)
  next_used i d lt =
      IsIn-right (get_or raw.latches.items i d).next.id.number (flat_map cube_nets machine.equations) _
      (IsIn-left (get_or raw.latches.items i d).next.id.number (map (λ latch. latch.next.net) machine.latches) _
      (IsIn-map (λ latch. latch.next.net) (latch_of (get_or raw.latches.items i d)) machine.latches
      (IsIn-map latch_of (get_or raw.latches.items i d) raw.latches.items (IsIn-at raw.latches.items i d lt))))

  module _ (graph : PlainGraph) (literals : List NodeLit) (order : List ℕ) (founded : IsWellFounded machine) (h : IsBuildOrder machine order)
      (has : HasLiterals machine graph literals (IsBuilt machine order)) where
    value_is : (state vector valuation : List Bool) → Agrees machine state vector valuation → (literal : PlainLiteral) → IsIn literal.net (used_nets machine)
        → value_of graph state vector (node_literal literals literal) ≡ literal_value (bit_at valuation) literal
    value_is state vector valuation agrees literal i =
        node_literal_value graph literals state vector literal
        ∙ ap (λ b. if literal.negated then not b else b) (has.worth literal.net (used_built machine order founded h literal.net i) state vector valuation agrees)

    pub output_values : (given : List NodeLit) → given ≡ map (λ (literal : Lit). node_literal literals (literal_of literal)) raw.outputs.items
        → (state vector valuation : List Bool) → Agrees machine state vector valuation → map (value_of graph state vector) given ≡ output_bits machine valuation
    output_values given e state vector valuation agrees =
        ap (λ l. map (value_of graph state vector) l) e
        ∙ same_mapped (λ (literal : Lit). node_literal literals (literal_of literal)) literal_of (value_of graph state vector)
        (literal_value (bit_at valuation)) raw.outputs.items (λ i d lt. value_is state vector valuation agrees (literal_of (get_or raw.outputs.items i d)) (output_used i d lt))

    pub next_values : (given : List NodeLit) → given ≡ map (λ (latch : Latch). node_literal literals (literal_of latch.next)) raw.latches.items
        → (state vector valuation : List Bool) → Agrees machine state vector valuation → map (value_of graph state vector) given ≡ next_state machine valuation
    next_values given e state vector valuation agrees =
        ap (λ l. map (value_of graph state vector) l) e
        ∙ same_mapped (λ (latch : Latch). node_literal literals (literal_of latch.next)) latch_of (value_of graph state vector)
        (λ latch. literal_value (bit_at valuation) latch.next) raw.latches.items
        (λ i d lt. value_is state vector valuation agrees (literal_of (get_or raw.latches.items i d).next) (next_used i d lt))

    pub outputs_within : (given : List NodeLit) → given ≡ map (λ (literal : Lit). node_literal literals (literal_of literal)) raw.outputs.items → AreWithin graph given
    outputs_within given e =
        subst (AreWithin graph) (sym e) (within_mapped (λ (literal : Lit). node_literal literals (literal_of literal)) graph raw.outputs.items
        (λ i d lt. node_literal_within graph literals (literal_of (get_or raw.outputs.items i d)) has.within (outputs_low (length literals) has.width i d lt)))

    pub nexts_within : (given : List NodeLit) → given ≡ map (λ (latch : Latch). node_literal literals (literal_of latch.next)) raw.latches.items → AreWithin graph given
    nexts_within given e =
        subst (AreWithin graph) (sym e) (within_mapped (λ (latch : Latch). node_literal literals (literal_of latch.next)) graph raw.latches.items
        (λ i d lt. node_literal_within graph literals (literal_of (get_or raw.latches.items i d).next) has.within (nexts_low (length literals) has.width i d lt)))

    -- all literals stand in the graph, one for each output and latch
    pub all_within : (outputs nexts : List NodeLit) (inits : List Bool) → IsKept graph
        → outputs ≡ map (λ (literal : Lit). node_literal literals (literal_of literal)) raw.outputs.items
        → nexts ≡ map (λ (latch : Latch). node_literal literals (literal_of latch.next)) raw.latches.items → inits ≡ map (λ (latch : Latch). latch.init) raw.latches.items
        → IsWithinGraph (record { graph = graph; outputs = outputs; nexts = nexts; inits = inits })
    all_within outputs nexts inits kept eo en ei = record {
      kept = kept;
      outputs_within = outputs_within outputs eo;
      nexts_within = nexts_within nexts en;
      outputs_fit = omega (
        arith,
        ap (λ l. length l) eo,
        length-map raw.outputs.items (λ (literal : Lit). node_literal literals (literal_of literal)),
        length-map raw.outputs.items literal_of,
        fits.limits.few_outputs,
      );
      one_next_each = ap (λ l. length l) en ∙ length-map raw.latches.items (λ (latch : Latch). node_literal literals (literal_of latch.next))
          ∙ sym (length-map raw.latches.items latch_of) ∙ sym has.latches;
      one_init_each = ap (λ l. length l) ei ∙ length-map raw.latches.items (λ (latch : Latch). latch.init) ∙ sym (length-map raw.latches.items latch_of) ∙ sym has.latches;
    }

    pub graph_of : (outputs nexts : List NodeLit) (inits : List Bool) → IsKept graph → length graph.pairs ≤ size_of machine
        → outputs ≡ map (λ (literal : Lit). node_literal literals (literal_of literal)) raw.outputs.items
        → nexts ≡ map (λ (latch : Latch). node_literal literals (literal_of latch.next)) raw.latches.items → inits ≡ map (λ (latch : Latch). latch.init) raw.latches.items
        → IsGraphOf machine (record { graph = graph; outputs = outputs; nexts = nexts; inits = inits })
    graph_of outputs nexts inits kept small eo en ei = record {
      within = all_within outputs nexts inits kept eo en ei;
      inputs = has.inputs;
      latches = has.latches;
      one_output_each = ap (λ l. length l) eo ∙ length-map raw.outputs.items (λ (literal : Lit). node_literal literals (literal_of literal)) ∙ sym (length-map raw.outputs.items literal_of);
      output_values = output_values outputs eo;
      next_values = next_values nexts en;
      first_bits = ei ∙ inits_mapped raw.latches.items;
      small = small;
    }
