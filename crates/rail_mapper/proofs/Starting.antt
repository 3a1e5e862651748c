-- A draft with no line, whose reads are counted, is ready for its input rails.
use Rattle.std.proofs.Common.{◌≡◌, ◌≤◌, ◌<◌, ◌+◌, ◌-◌, ◌/◌, ◌^◌, ◌||◌, inl, inr, ℕ, zero, suc, Bool, true, false, Option, Some, None, List, [], ◌++◌, map, length, slice_get, get_or, replicate}
use Rattle.std.proofs.Common.{ap, sym, subst, ◌∙◌, refl, arith, if◌then◌else◌}
use Rattle.std.specs.List.{range_with_len}
use Rattle.std.proofs.lemmas.Bool.{cases_lt}
use Rattle.std.proofs.lemmas.List.{length-append, length-replicate}
use Rattle.pulse_ids.specs.Ids.{NodeLit}
use Rattle.pulse_ids.specs.Lists.{IsIn, occurrences}
use Rattle.pulse_ids.specs.Literals.{rail_sign}
use Rattle.pulse_ids.specs.declared.literals.Sign.{Sign}
use Rattle.pulse_ids.specs.declared.literals.Sign.TheVariants.{Pos, Neg}
use Rattle.pulse_ids.proofs.CallerLemmas.{IsIn-append, IsIn-from_map, IsIn-from_flat_map, place_of}
use Rattle.pulse_ids.proofs.CallerLemmasOnCounts.{occurrences-absent}
use Rattle.cell_netlist.specs.declared.kinds.Ask.{Ask}
use Rattle.cell_netlist.specs.declared.kinds.Version.{Version}
use Rattle.cell_netlist.specs.Netlists.{empty_netlist, versioned}
use Rattle.wire_ledgers.specs.Ledgers.{IsLedger}
use Rattle.cell_netlist.specs.Asked.{signs_of}
use Rattle.aig_core.specs.declared.nodes.Node.{Node}
use Rattle.aig_core.specs.declared.nodes.Node.TheVariants.{False, Input, Latch, And}
use Rattle.aig_core.specs.Graphs.{nodes_of, count_of}
use Rattle.aig_core.specs.Laws.{ConjunctionsArePairs}
use Rattle.graph_build.specs.Built.{PlainBuilt, IsWithinGraph}
use Rattle.rail_demand.specs.Demands.{PlainDemand, is_needed}
use Rattle.wire_ledgers.proofs.CallerLemmas.{begin_ledger}
use Rattle.rail_mapper.specs.Counts.{with_reads}
use Rattle.rail_mapper.specs.Drafts.{PlainDraft, leaves_of, readers_of, total}
use Rattle.rail_mapper.specs.InputStages.{InputsAt}
use Rattle.rail_mapper.specs.Labels.{rails_in, literal_number, sign_in}
use Rattle.rail_mapper.specs.Plans.{fan_in, rail_uses, gate_uses, front_use, latch_uses, front_uses, output_uses, uses}
use Rattle.rail_mapper.specs.Starts.{first_draft}
use Rattle.rail_mapper.proofs.CountedReads.{and_within, length-counted, total-counted, count_of_rail, total-none, none_counted, reads_few, fronts_few, outputs_few, outputs_all}
use Rattle.rail_mapper.proofs.OutputSteps.{none_past}
use Rattle.rail_mapper.proofs.Stocks.{all_of}
use Rattle.rail_mapper.proofs.Values.{rail_low}

-- shelves with no leaf
bare_shelf : (n rail : ℕ) → get_or (replicate {A = List ℕ} n []) rail [] ≡ []
bare_shelf zero rail = refl
bare_shelf (suc n) zero = refl
bare_shelf (suc n) (suc rail) = bare_shelf n rail

bare_shelves : (n : ℕ) → all_of (replicate {A = List ℕ} n []) ≡ []
bare_shelves zero = refl
bare_shelves (suc n) = bare_shelves n

module _ (built : PlainBuilt) (demand : PlainDemand) (ask : Ask) (within : IsWithinGraph built) (pairs : ConjunctionsArePairs) where
  abbrev low : ℕ → Type 0
  low rail = rail < rails_in built

  literal_low : (literal : NodeLit) (sign : Sign) → literal.id.number < count_of built.graph → low (literal_number literal sign)
  literal_low literal sign inside = rail_low built literal.id.number (rail_sign literal sign) inside

  -- each rail that is read is one of the graph's
  fan_in_low : (number : ℕ) (node : Option Node) (sign : Sign) (rail : ℕ) → slice_get (nodes_of built.graph) number ≡ node → IsIn rail (fan_in node sign) → low rail
  fan_in_low number None sign rail e m = absurd m
  fan_in_low number (Some False) sign rail e m = absurd m
  fan_in_low number (Some (Input k)) sign rail e m = absurd m
  fan_in_low number (Some (Latch k)) sign rail e m = absurd m
  fan_in_low number (Some (And a b)) sign rail e (inl s) = subst low s (literal_low a sign (and_within built.graph number a b within.kept pairs e).0)
  fan_in_low number (Some (And a b)) sign rail e (inr (inl s)) = subst low s (literal_low b sign (and_within built.graph number a b within.kept pairs e).1)
  fan_in_low number (Some (And a b)) sign rail e (inr (inr m)) = absurd m

  gate_low : (its rail : ℕ) → IsIn rail (rail_uses built demand its) → low rail
  gate_low its rail m = by (is_needed demand (its / 2) (sign_in its)) m
    where
      by : (b : Bool) → IsIn rail (if b then fan_in (slice_get (nodes_of built.graph) (its / 2)) (sign_in its) else []) → low rail
      by true k = fan_in_low (its / 2) (slice_get (nodes_of built.graph) (its / 2)) (sign_in its) rail refl k
      by false k = absurd k

  front_low : (latch rail : ℕ) (next : Option NodeLit) → slice_get built.nexts latch ≡ next → IsIn rail (front_use next) → low rail
  front_low latch rail None e m = absurd m
  front_low latch rail (Some literal) e (inl s) = subst low s (literal_low literal Pos (within.nexts_within latch literal e))
  front_low latch rail (Some literal) e (inr m) = absurd m

  latch_low : (latch rail : ℕ) → IsIn rail (latch_uses built demand latch) → low rail
  latch_low latch rail m = by (is_needed demand (1 + built.graph.inputs + latch) Pos || is_needed demand (1 + built.graph.inputs + latch) Neg) m
    where
      by : (b : Bool) → IsIn rail (if b then front_use (slice_get built.nexts latch) else []) → low rail
      by true k = front_low latch rail (slice_get built.nexts latch) refl k
      by false k = absurd k

  output_low : (literal : NodeLit) (rail : ℕ) → IsIn literal built.outputs → IsIn rail (map (literal_number literal) (signs_of ask)) → low rail
  output_low literal rail among m =
      let at = place_of literal built.outputs among in
      let s = IsIn-from_map (literal_number literal) rail (signs_of ask) m in
      subst low s.2 (literal_low literal s.0 (within.outputs_within at.0 literal at.1))

  pub uses_low : (rail : ℕ) → IsIn rail (uses built demand ask) → low rail
  uses_low rail m = elim (IsIn-append rail (gate_uses built demand 0) (front_uses built demand ++ output_uses built ask) m) [
    | inl k ↦ let f = IsIn-from_flat_map (rail_uses built demand) rail (range_with_len 0 (rails_in built - 0)) k in gate_low f.0 rail f.2
    | inr k ↦ elim (IsIn-append rail (front_uses built demand) (output_uses built ask) k) [
      | inl j ↦ let f = IsIn-from_flat_map (latch_uses built demand) rail (range_with_len 0 built.graph.latches) j in latch_low f.0 rail f.2
      | inr j ↦ let f = IsIn-from_flat_map (λ (literal : NodeLit). map (literal_number literal) (signs_of ask)) rail built.outputs j in output_low f.0 rail f.1 f.2
    ]
  ]

  -- and there are few reads
  pub uses_few : length (uses built demand ask) ≤ 2 ^ 20 + 2 ^ 18
  uses_few =
      let a = length-append (gate_uses built demand 0) (front_uses built demand ++ output_uses built ask) in
      let b = length-append (front_uses built demand) (output_uses built ask) in
      let g = reads_few built demand (rails_in built - 0) in
      let f = fronts_few built demand built.graph.latches in
      let o = outputs_few built.outputs ask (length built.outputs) in
      let all = ap (λ (l : List ℕ). length l) (outputs_all built ask (length built.outputs) (omega arith)) in
      omega (arith, within.kept.inputs_fit, within.kept.latches_fit, within.kept.pairs_fit, within.outputs_fit)

  module _ (version : Version) where
    -- a ledger doesn't tell of the version
    of_version : IsLedger (empty_netlist built.graph.inputs (length built.outputs)) [] [] → IsLedger (versioned version built.graph.inputs (length built.outputs)) [] []
    of_version h = record { in_order = h.in_order; once = h.once; inside = h.inside; rise = h.rise }

    abbrev start : PlainDraft
    start = with_reads (first_draft version built.graph.inputs (length built.outputs) (rails_in built)) (uses built demand ask)

    counted : (rail : ℕ) → readers_of start rail ≡ occurrences rail (uses built demand ask)
    counted rail = elim (cases_lt rail (rails_in built)) [
      | inl near ↦
          let c = count_of_rail (replicate (rails_in built) 0) (uses built demand ask) rail (omega (arith, length-replicate {A = ℕ} (rails_in built) 0)) in
          let n = none_counted (rails_in built) rail in omega arith
      | inr far ↦
          none_past start.counts rail (omega (arith, length-counted (replicate (rails_in built) 0) (uses built demand ask), length-replicate {A = ℕ} (rails_in built) 0))
          ∙ sym (occurrences-absent rail (uses built demand ask) (λ m. let l = uses_low rail m in absurd (omega arith)))
    ]

    bare : (rail : ℕ) → leaves_of start rail ≡ []
    bare rail = bare_shelf (rails_in built) rail

    counts_few : total start.counts ≤ 2 ^ 20 + 2 ^ 18
    counts_few =
        let t = total-counted (replicate (rails_in built) 0) (uses built demand ask) in let z = total-none (rails_in built) in let f = uses_few in omega arith

    pub started : InputsAt built demand ask version 0 start
    started = record {
      held = record {
        is_draft = record {
          ledger = rw (bare_shelves (rails_in built)) (of_version (begin_ledger built.graph.inputs (length built.outputs)));
          exact = λ rail. let b = ap (λ (l : List ℕ). length l) (bare rail) in let c = counted rail in omega arith;
        };
        is_at = record { spread = λ below none. absurd (omega arith); bare = λ above from. bare above };
        planned = λ rail from. counted rail;
        stock_size = length-replicate {A = List ℕ} (rails_in built) [];
        counts_size = length-counted (replicate (rails_in built) 0) (uses built demand ask) ∙ length-replicate {A = ℕ} (rails_in built) 0;
        labels = [];
        one_each = refl;
        tracked = λ label f. (
          record {
            stocked = λ rail wire m. absurd (subst (λ (l : List ℕ). IsIn wire l) (bare rail) m);
            inputs = λ rail m. absurd m;
            gates = λ cell m. absurd m;
            backs = λ place preload feed q n e. absurd cc;
            fronts = λ preload feed q n m. absurd m;
            waits = λ place latch m. absurd m;
            constants = λ preload feed q n m. absurd m;
            outputs = λ rail m. absurd m;
            states = λ line m. absurd m;
          },
          λ wire its m. absurd m,
        );
      };
      wires = refl;
      each = refl;
      rails = refl;
      frame = refl;
      no_pending = refl;
      room = record { wires = let f = counts_few in omega arith; cells = omega arith };
    }
