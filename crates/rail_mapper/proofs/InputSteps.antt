-- Input rails, whose wires are in hand until they are spread.
use Rattle.std.proofs.Common.{◌≡◌, ◌+◌, inl, inr, ℕ, Some, List, [], ◌∷◌, ◌++◌, map, slice_get, ap, sym, subst, ◌∙◌, refl, arith}
use Rattle.std.proofs.lemmas.List.{length-append, map-append}
use Rattle.pulse_ids.specs.declared.literals.Sign.{Sign}
use Rattle.cell_netlist.specs.declared.lines.Rail.{Rail}
use Rattle.cell_netlist.specs.declared.kinds.Ask.{Ask}
use Rattle.pulse_ids.specs.Lists.{IsIn, occurrences}
use Rattle.cell_netlist.specs.Netlists.{number_of_wires}
use Rattle.pulse_ids.proofs.CallerLemmas.{IsIn-append}
use Rattle.cell_netlist.proofs.CallerLemmas.{number_of_wires-input}
use Rattle.aig_core.specs.Graphs.{nodes_of}
use Rattle.graph_build.specs.Built.{PlainBuilt}
use Rattle.rail_demand.specs.Demands.{PlainDemand}
use Rattle.pulse_ids.proofs.CallerLemmasOnCounts.{occurrences-append}
use Rattle.rail_mapper.specs.Drafts.{PlainDraft, open_in}
use Rattle.rail_mapper.specs.Labels.{rail_number, IsRailOfInput}
use Rattle.rail_mapper.specs.InputStages.{next_rail, with_input}
use Rattle.rail_mapper.specs.Stages.{IsHeld}
use Rattle.wire_ledgers.proofs.CallerLemmas.{input_step, same_open}
use Rattle.rail_mapper.proofs.Tracking.{same_const}
use Rattle.rail_mapper.proofs.StageSteps.{follows_front, follows_last}
use Rattle.aig_core.specs.declared.nodes.Node.TheVariants as nodes

pub held_added : (built : PlainBuilt) (demand : PlainDemand) (ask : Ask) (rail : ℕ) (hand : List (ℕ × ℕ)) (draft : PlainDraft) (port node : ℕ) (sign : Sign)
    → IsHeld built demand ask rail hand draft → draft.net.cells ≡ []
    → slice_get (nodes_of built.graph) node ≡ Some (nodes.Input port)
    → IsHeld built demand ask rail (hand ++ (let held : ℕ × ℕ = (number_of_wires draft.net, rail_number node sign) in held) ∷ []) (with_input draft (next_rail draft port sign))
held_added built demand ask rail hand draft port node sign h none stands = record {
  is_draft = record {
    ledger = same_open (with_input draft (next_rail draft port sign)).net (number_of_wires draft.net ∷ (open_in draft ++ map (λ (p : ℕ × ℕ). p.0) hand))
        (open_in draft ++ map (λ (p : ℕ × ℕ). p.0) (hand ++ (number_of_wires draft.net, rail_number node sign) ∷ []))
        (map (λ (p : ℕ × ℕ). 0) draft.pending)
        (input_step draft.net (next_rail draft port sign) (open_in draft ++ map (λ (p : ℕ × ℕ). p.0) hand) (map (λ (p : ℕ × ℕ). 0) draft.pending) h.is_draft.ledger none refl)
        (λ wire.
        let a = occurrences-append wire (open_in draft) (map (λ (p : ℕ × ℕ). p.0) (hand ++ (number_of_wires draft.net, rail_number node sign) ∷ [])) in
        let b = occurrences-append wire (open_in draft) (map (λ (p : ℕ × ℕ). p.0) hand) in
        let c = ap (occurrences wire) (map-append (λ (p : ℕ × ℕ). p.0) hand ((number_of_wires draft.net, rail_number node sign) ∷ [])) in
        let d = occurrences-append wire (map (λ (p : ℕ × ℕ). p.0) hand) (number_of_wires draft.net ∷ []) in omega arith);
    exact = h.is_draft.exact;
  };
  is_at = record { spread = h.is_at.spread; bare = h.is_at.bare };
  planned = h.planned;
  stock_size = h.stock_size;
  counts_size = h.counts_size;
  labels = h.labels ++ rail_number node sign ∷ [];
  one_each = length-append h.labels (rail_number node sign ∷ []) ∙ ap (λ (k : ℕ). k + 1) h.one_each ∙ sym number;
  tracked = λ label f.
      let t = h.tracked label (follows_front h.labels (rail_number node sign ∷ []) label f) in
      let new : label (number_of_wires draft.net) ≡ rail_number node sign =
      follows_last h.labels 1 (rail_number node sign) label f (number_of_wires draft.net) (omega (arith, h.one_each)) (omega (arith, h.one_each)) in (
        record {
          stocked = t.0.stocked;
          inputs = λ other m. elim (IsIn-append other draft.net.input_rails (next_rail draft port sign ∷ []) m) [ inl k ↦ t.0.inputs other k | inr k ↦ only label new other k ];
          gates = t.0.gates;
          backs = t.0.backs;
          fronts = t.0.fronts;
          waits = t.0.waits;
          constants = λ preload feed q n m. same_const label draft.net (with_input draft (next_rail draft port sign)).net (λ cell k d. k) preload feed q n (t.0.constants preload feed q n m);
          outputs = t.0.outputs;
          states = t.0.states;
        },
        λ wire its m. elim (IsIn-append {X = ℕ × ℕ} (wire, its) hand ((number_of_wires draft.net, rail_number node sign) ∷ []) m) [ inl k ↦ t.1 wire its k | inr k ↦ last label new wire its k ],
      );
}
  where
    number : number_of_wires (with_input draft (next_rail draft port sign)).net ≡ number_of_wires draft.net + 1
    number = number_of_wires-input draft.net (next_rail draft port sign) ∙ omega arith

    only : (label : ℕ → ℕ) → label (number_of_wires draft.net) ≡ rail_number node sign → (other : Rail) → IsIn other (next_rail draft port sign ∷ []) → IsRailOfInput built label other
    only label new other (inl e) = subst (λ (r : Rail). IsRailOfInput built label r) e (record { node = node; stands = stands; wire_is = new })
    only label new other (inr m) = absurd m

    last : (label : ℕ → ℕ) → label (number_of_wires draft.net) ≡ rail_number node sign → (wire its : ℕ)
        → IsIn {X = ℕ × ℕ} (wire, its) ((number_of_wires draft.net, rail_number node sign) ∷ []) → label wire ≡ its
    last label new wire its (inl e) = ap label (sym (ap (λ (p : ℕ × ℕ). p.0) e)) ∙ new ∙ ap (λ (p : ℕ × ℕ). p.1) e
    last label new wire its (inr m) = absurd m
