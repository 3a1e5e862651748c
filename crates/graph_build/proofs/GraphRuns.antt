-- A machine's graph and the machine over whole runs.
use Rattle.std.proofs.Common.{◌≡◌, ℕ, zero, suc, ◌≤◌, ◌<◌, List, [], ◌∷◌, Bool, length, map, drop, get_or, slice_get, Some, drop-cons, refl, sym, ◌∙◌, ap, subst, arith}
use Rattle.pulse_ids.specs.Ids.{NodeLit}
use Rattle.pulse_ids.specs.Lists.{bit_at}
use Rattle.aig_core.specs.Values.{value_of}
use Rattle.source_machine.specs.Machines.{PlainMachine}
use Rattle.source_machine.specs.Runs.{Agrees, IsRun, IsRunFrom, next_state, output_bits}
use Rattle.graph_build.specs.Built.{PlainBuilt, IsGraphOf}
use Rattle.graph_build.specs.Runs.{vector_at, state_at, outputs_at}
use Rattle.graph_build.specs.Laws.{RunsAlike, GraphsRunAlike}

one_each : (machine : PlainMachine) (state : List Bool) (vectors valuations : List (List Bool)) → IsRunFrom machine state vectors valuations → length valuations ≡ length vectors
one_each machine state [] [] r = refl
one_each machine state [] (valuation ∷ valuations) r = absurd r
one_each machine state (vector ∷ vectors) [] r = absurd r
one_each machine state (vector ∷ vectors) (valuation ∷ valuations) r = ap suc (one_each machine (next_state machine valuation) vectors valuations r.1)

bit_of_literal : (f : NodeLit → Bool) (literals : List NodeLit) (place : ℕ) (literal : NodeLit) → slice_get literals place ≡ Some literal → bit_at (map f literals) place ≡ f literal
bit_of_literal f [] place literal e = absurd cc
bit_of_literal f (first ∷ literals) zero literal e = let same : first ≡ literal = cc in ap f same
bit_of_literal f (first ∷ literals) (suc place) literal e = bit_of_literal f literals place literal e

module _ (machine : PlainMachine) (built : PlainBuilt) (h : IsGraphOf machine built) (vectors valuations : List (List Bool)) (run : IsRun machine vectors valuations) where
  paired : length valuations ≡ length vectors
  paired = one_each machine _ vectors valuations run

  abbrev valuation_at : ℕ → List Bool
  valuation_at cycle = get_or valuations cycle []

  -- the rest of the run begins at the graph's state
  abbrev Rest : ℕ → Type 0
  Rest cycle = IsRunFrom machine (state_at built vectors cycle) (drop cycle vectors) (drop cycle valuations)

  -- with the vector and the valuation of the cycle
  first : (cycle : ℕ) → cycle < length vectors → Rest cycle → Agrees machine (state_at built vectors cycle) (vector_at vectors cycle) (valuation_at cycle)
      × IsRunFrom machine (next_state machine (valuation_at cycle)) (drop (suc cycle) vectors) (drop (suc cycle) valuations)
  first cycle lt rest =
      subst (λ l. IsRunFrom machine (state_at built vectors cycle) (vector_at vectors cycle ∷ drop (suc cycle) vectors) l) (drop-cons valuations cycle [] (omega (arith, lt, paired)))
      (subst (λ l. IsRunFrom machine (state_at built vectors cycle) l (drop cycle valuations)) (drop-cons vectors cycle [] lt) rest)

  rest_at : (cycle : ℕ) → cycle ≤ length vectors → Rest cycle
  rest_at zero le = subst (λ state. IsRunFrom machine state vectors valuations) (sym h.first_bits) run
  rest_at (suc cycle) le =
      let both = first cycle (omega arith) (rest_at cycle (omega arith)) in
      subst (λ state. IsRunFrom machine state (drop (suc cycle) vectors) (drop (suc cycle) valuations)) (sym (h.next_values _ _ _ both.0)) both.1

  agrees : (cycle : ℕ) → cycle < length vectors → Agrees machine (state_at built vectors cycle) (vector_at vectors cycle) (valuation_at cycle)
  agrees cycle lt = (first cycle lt (rest_at cycle (omega arith))).0

  outputs : (cycle : ℕ) → cycle < length vectors → outputs_at built vectors cycle ≡ output_bits machine (valuation_at cycle)
  outputs cycle lt = h.output_values _ _ _ (agrees cycle lt)

  runs_alike : RunsAlike machine built vectors valuations
  runs_alike = record {
    one_each = paired;
    agrees = agrees;
    outputs = outputs;
    bits = λ cycle output literal lt e. sym (bit_of_literal
        (value_of built.graph (state_at built vectors cycle) (vector_at vectors cycle)) built.outputs output literal e) ∙ ap (λ l. bit_at l output) (outputs cycle lt);
  }

pub graphs_run_alike : GraphsRunAlike
graphs_run_alike machine built h vectors valuations run = runs_alike machine built h vectors valuations run
