-- The next input rail that is to be spread is driven by no splitter and read by none.
use Rattle.std.proofs.Common.{◌≡◌, ◌≤◌, ◌<◌, ◌+◌, ◌*◌, ◌-◌, inl, inr, ℕ, zero, suc, Bool, List, [], ◌∷◌, ◌++◌, map, length, ap, subst, ◌∙◌, refl, arith}
use Rattle.std.specs.List.{flat_map, range_with_len}
use Rattle.std.proofs.lemmas.Bool.{cases_eq}
use Rattle.std.proofs.lemmas.List.{length-map}
use Rattle.pulse_ids.specs.Lists.{IsIn, occurrences}
use Rattle.pulse_ids.specs.declared.literals.Sign.{Sign}
use Rattle.pulse_ids.proofs.CallerLemmas.{IsIn-left, IsIn-flat_map}
use Rattle.pulse_ids.proofs.CallerLemmasOnCounts.{occurrences-append, occurrences-head, IsIn-occurrences}
use Rattle.cell_netlist.specs.declared.kinds.Ask.{Ask}
use Rattle.cell_netlist.specs.Netlists.{PlainNetlist, wire_of, outs, reads, driven, number_of_wires}
use Rattle.cell_netlist.proofs.CallerLemmas.{Splits-out}
use Rattle.droc_pairs.specs.Pairs.{wires_for}
use Rattle.wire_ledgers.specs.Ledgers.{IsLedger}
use Rattle.wire_ledgers.proofs.CallerLemmasOnEnds.{ledger_driven}
use Rattle.graph_build.specs.Built.{PlainBuilt}
use Rattle.rail_demand.specs.Demands.{PlainDemand}
use Rattle.rail_mapper.specs.Drafts.{PlainDraft, open_in, readers_of}
use Rattle.rail_mapper.specs.InputStages.{is_read, held_if, held_from, TreesAt}
use Rattle.rail_mapper.specs.Labels.{rail_number}
use Rattle.rail_mapper.specs.Plans.{uses}
use Rattle.rail_mapper.proofs.FanOuts.{IsBare}
use Rattle.rail_mapper.proofs.InputStageLemmas.{read_so}
use Rattle.rail_mapper.proofs.TreeWires.{split_reads}

-- the first numbers of a row are those of the first part
first_part : (xs ys : List ℕ) (first n : ℕ) → xs ++ ys ≡ range_with_len first n → (k : ℕ) → first ≤ k → k < first + length xs → IsIn k xs
first_part [] ys first n e k low high = absurd (omega arith)
first_part (x ∷ xs) ys first zero e k low high = absurd cc
first_part (x ∷ xs) ys first (suc n) e k low high =
    let head : x ≡ first = cc in let tail : xs ++ ys ≡ range_with_len (first + 1) n = cc in
    elim (cases_eq x k) [ inl s ↦ inl s | inr ne ↦ inr (first_part xs ys (first + 1) n tail k (omega arith) (omega arith)) ]

-- an open wire of an input rail
open_input : (net : PlainNetlist) (open_wires : List ℕ) (wire : ℕ) → IsLedger net open_wires [] → 1 ≤ occurrences wire open_wires → wire < length net.input_rails → IsBare net wire
open_input net open_wires wire ledger opened low = record {
  there = IsIn-left wire (map wire_of net.input_rails) (flat_map outs net.cells) among;
  top = λ from s.
      let one = IsIn-occurrences wire (map wire_of net.input_rails) among in
      let two = IsIn-occurrences wire (flat_map outs net.cells) (IsIn-flat_map outs wire s.0 net.cells s.1 (Splits-out s.0 from wire s.2)) in
      let both = occurrences-append wire (map wire_of net.input_rails) (flat_map outs net.cells) in let few = once in absurd (omega arith);
  end = λ to s.
      let one = IsIn-occurrences wire (flat_map reads net.cells) (IsIn-flat_map reads wire s.0 net.cells s.1 (split_reads s.0 wire to s.2)) in
      let both = occurrences-append wire (flat_map reads net.cells) (map wire_of net.output_rails) in
      let balance = ledger.once wire in let few = once in absurd (omega arith);
}
  where
    among : IsIn wire (map wire_of net.input_rails)
    among = first_part (map wire_of net.input_rails) (flat_map outs net.cells) 0 (number_of_wires net) ledger.in_order wire (omega arith)
        (omega (arith, length-map net.input_rails wire_of))

    once : occurrences wire (driven net) ≡ 1
    once = ledger_driven net open_wires [] ledger wire (ledger.inside wire opened)

module _ (built : PlainBuilt) (demand : PlainDemand) (ask : Ask) (count port wire : ℕ) (sign : Sign) (draft : PlainDraft) (number : rail_number (1 + port) sign ≡ 2 + count)
    (low : count < 2 * built.graph.inputs) (h : TreesAt built demand ask count wire draft) where
  abbrev hand : List (ℕ × ℕ)
  hand = held_from (uses built demand ask) wire (range_with_len (2 + count) (2 * built.graph.inputs - count))

  abbrev later : List (ℕ × ℕ)
  later = held_from (uses built demand ask) (wire + wires_for (is_read (uses built demand ask) (2 + count))) (range_with_len (2 + count + 1) (2 * built.graph.inputs - (count + 1)))

  opened : 1 ≤ readers_of draft (rail_number (1 + port) sign) → hand ≡ (let held : ℕ × ℕ = (wire, 2 + count) in held) ∷ later
  opened some =
      let planned = h.held.planned (2 + count) (omega arith) in
      (let z : 2 * built.graph.inputs - count ≡ suc (2 * built.graph.inputs - (count + 1)) = omega arith in
      ap (λ (k : ℕ). held_from (uses built demand ask) wire (range_with_len (2 + count) k)) z)
      ∙ ap (λ (b : Bool). held_if b wire (2 + count) ++ later) (read_so (uses built demand ask) (2 + count) (omega (arith, planned, ap (readers_of draft) number)))

  pub tree_bare : 1 ≤ readers_of draft (rail_number (1 + port) sign) → IsBare draft.net wire
  tree_bare some =
      open_input draft.net (open_in draft ++ map (λ (p : ℕ × ℕ). p.0) hand) wire
      (subst (λ (l : List (ℕ × ℕ)). IsLedger draft.net (open_in draft ++ map (λ (p : ℕ × ℕ). p.0) hand) (map (λ (p : ℕ × ℕ). 0) l)) h.no_pending h.held.is_draft.ledger)
      (let all = ap (λ (l : List (ℕ × ℕ)). occurrences wire (map (λ (p : ℕ × ℕ). p.0) l)) (opened some) in
      let first = occurrences-head wire wire (map (λ (p : ℕ × ℕ). p.0) later) refl in
      let both = occurrences-append wire (open_in draft) (map (λ (p : ℕ × ℕ). p.0) hand) in omega arith)
      (let all = ap (λ (l : List (ℕ × ℕ)). length l) (opened some) in let rails = h.all_inputs in omega arith)
