-- Names of ports change nothing else of a draft.
use Rattle.std.proofs.Common.{ℕ, List, map}
use Rattle.cell_netlist.specs.declared.kinds.Ask.{Ask}
use Rattle.cell_netlist.specs.Netlists.{PlainNetlist}
use Rattle.graph_build.specs.Built.{PlainBuilt}
use Rattle.wire_ledgers.specs.Ledgers.{IsLedger}
use Rattle.rail_mapper.specs.Drafts.{PlainDraft}
use Rattle.rail_mapper.specs.OutputStages.{OutputsAt, outputs_from}
use Rattle.rail_mapper.specs.Stages.{IsClosing}
use Rattle.rail_mapper.specs.Tracks.{IsTracked}
use Rattle.rail_mapper.proofs.Tracking.{same_const}

abbrev Names : Type 0
Names = List (ℕ × List ℕ)

abbrev pub with_names : PlainNetlist → Names → Names → PlainNetlist
with_names net inputs outputs = record net { input_names = inputs; output_names = outputs }

abbrev pub named_draft : PlainDraft → Names → Names → PlainDraft
named_draft draft inputs outputs = record draft { net = with_names draft.net inputs outputs }

named_ledger : (net : PlainNetlist) (inputs outputs : Names) (open_wires debts : List ℕ) → IsLedger net open_wires debts → IsLedger (with_names net inputs outputs) open_wires debts
named_ledger net inputs outputs open_wires debts h = record { in_order = h.in_order; once = h.once; inside = h.inside; rise = h.rise }

named_tracked : (built : PlainBuilt) (label : ℕ → ℕ) (pending : List (ℕ × ℕ)) (draft : PlainDraft) (inputs outputs : Names) → IsTracked built label pending draft
    → IsTracked built label pending (named_draft draft inputs outputs)
named_tracked built label pending draft inputs outputs t = record {
  stocked = t.stocked;
  inputs = t.inputs;
  gates = t.gates;
  backs = t.backs;
  fronts = t.fronts;
  waits = t.waits;
  constants = λ preload feed q n m. same_const label draft.net (with_names draft.net inputs outputs) (λ cell k d. k) preload feed q n (t.constants preload feed q n m);
  outputs = t.outputs;
  states = t.states;
}

named_closing : (built : PlainBuilt) (left : List ℕ) (draft : PlainDraft) (inputs outputs : Names) → IsClosing built left draft → IsClosing built left (named_draft draft inputs outputs)
named_closing built left draft inputs outputs h = record {
  is_draft = record { ledger = named_ledger draft.net inputs outputs _ (map (λ (p : ℕ × ℕ). 0) draft.pending) h.is_draft.ledger; exact = h.is_draft.exact };
  spread = h.spread;
  labels = h.labels;
  one_each = h.one_each;
  tracked = λ label f. named_tracked built label draft.pending draft inputs outputs (h.tracked label f);
}

pub named_outputs : (built : PlainBuilt) (ask : Ask) (port : ℕ) (draft : PlainDraft) (inputs outputs : Names) → OutputsAt built ask port draft
    → OutputsAt built ask port (named_draft draft inputs outputs)
named_outputs built ask port draft inputs outputs h = record {
  closing = named_closing built (outputs_from built ask port) draft inputs outputs h.closing;
  no_pending = h.no_pending;
  all_spread = h.all_spread;
  rails = h.rails;
  wires = h.wires;
}
