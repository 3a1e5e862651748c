-- Output rails, and the end.
use Rattle.std.proofs.Common.{◌≡◌, ◌≤◌, ◌<◌, inl, inr, ℕ, zero, suc, Bool, false, Option, Some, List, [], ◌∷◌, ◌++◌, map, length, slice_get, slice_index_or, get_or, ◌-◌, ap, sym, subst, ◌∙◌}
use Rattle.std.proofs.Common.{refl, arith}
use Rattle.std.specs.Prelude.{option_map, unwrap_or}
use Rattle.pulse_ids.specs.Ids.{NodeLit, numbered}
use Rattle.pulse_ids.specs.declared.literals.Sign.{Sign}
use Rattle.cell_netlist.specs.declared.kinds.Role.TheVariants.{Back}
use Rattle.cell_netlist.specs.declared.lines.Rail.{Rail}
use Rattle.cell_netlist.specs.declared.lines.Cell.{Cell}
use Rattle.cell_netlist.specs.declared.lines.Cell.TheVariants.{Droc}
use Rattle.cell_netlist.specs.declared.lines.StateLine.{StateLine}
use Rattle.pulse_ids.specs.Lists.{IsIn, occurrences, bit_at}
use Rattle.cell_netlist.specs.Netlists.{PlainNetlist, number_of_wires}
use Rattle.cell_netlist.specs.RailEquations.{first_state, feed_of, IsNetRun}
use Rattle.cell_netlist.specs.Sound.{IsBackFrom, IsNamedBefore, IsSound}
use Rattle.pulse_ids.proofs.CallerLemmas.{IsIn-append, IsIn-place}
use Rattle.cell_netlist.proofs.CallerLemmas.{number_of_wires-output}
use Rattle.aig_core.specs.Graphs.{count_of}
use Rattle.aig_core.specs.Laws.{NodesHaveTheirBits}
use Rattle.graph_build.specs.Built.{PlainBuilt, IsGraphOf}
use Rattle.source_machine.specs.Machines.{PlainMachine}
use Rattle.source_machine.specs.Runs.{IsRun, IsRunFrom, bit_of}
use Rattle.cell_netlist.specs.NetRuns.{OutputsCarry, latches_from}
use Rattle.pulse_ids.proofs.CallerLemmasOnCounts.{occurrences-append}
use Rattle.wire_ledgers.specs.Ledgers.{IsLedger}
use Rattle.rail_mapper.specs.Drafts.{PlainDraft, readers_of, open_in, IsDraft}
use Rattle.rail_mapper.specs.Labels.{literal_number, rails_in, IsRailOfOutput, IsLabelled}
use Rattle.cell_netlist.specs.declared.kinds.Ask.{Ask}
use Rattle.rail_demand.specs.Demands.{PlainDemand}
use Rattle.std.specs.List.{flat_map, range_with_len}
use Rattle.std.proofs.lemmas.Bool.{cases_lt}
use Rattle.rail_mapper.specs.Plans.{rail_uses, front_uses, output_uses, left_from}
use Rattle.rail_mapper.specs.Stages.{IsStage, IsClosing, Outputs}
use Rattle.rail_mapper.specs.Tracks.{IsTracked}
use Rattle.rail_mapper.proofs.DraftSteps.{take_step}
use Rattle.rail_mapper.proofs.Ending.{tracked_labelled, tracked_sound, state_linked}
use Rattle.wire_ledgers.proofs.CallerLemmas.{output_step, same_open}
use Rattle.rail_mapper.proofs.NetRuns.{starts, runs_agree, states_agree}
use Rattle.rail_mapper.specs.Mapped.{StatesFollow, state_from}
use Rattle.rail_mapper.proofs.Stocks.{none_open}
use Rattle.rail_mapper.proofs.Tracking.{take_tracked, same_const}

abbrev output_rail : ℕ → Sign → ℕ → Rail
output_rail port sign wire = record { port = port; sign = sign; wire = numbered wire }

abbrev with_output : PlainNetlist → ℕ → Sign → ℕ → PlainNetlist
with_output net port sign wire = record net { output_rails = net.output_rails ++ output_rail port sign wire ∷ [] }

-- an output rail reads the leaf that it takes, and no wire is new
module _ (rail port : ℕ) (sign : Sign) (left : List ℕ) (before after : PlainDraft) (h : IsDraft before [] (map (λ (p : ℕ × ℕ). 0) before.pending) (rail ∷ left))
    (out : Outputs rail port sign before after) where
  out_pending : out.middle.pending ≡ before.pending
  out_pending = ap (λ (d : PlainDraft). d.pending) out.taken.taken

  taken : IsDraft out.middle (out.wire ∷ []) (map (λ (p : ℕ × ℕ). 0) before.pending) left
  taken = take_step before out.middle [] (map (λ (p : ℕ × ℕ). 0) before.pending) left rail out.wire h out.taken

  pub output_draft : IsDraft after [] (map (λ (p : ℕ × ℕ). 0) after.pending) left
  output_draft = subst (λ (d : PlainDraft). IsDraft d [] (map (λ (p : ℕ × ℕ). 0) d.pending) left) (sym out.added) (record {
    ledger = output_step out.middle.net (output_rail port sign out.wire) (open_in out.middle ++ out.wire ∷ []) (open_in out.middle ++ []) (map (λ (p : ℕ × ℕ). 0) out.middle.pending)
        (subst (λ (l : List (ℕ × ℕ)). IsLedger out.middle.net (open_in out.middle ++ out.wire ∷ []) (map (λ (p : ℕ × ℕ). 0) l)) (sym out_pending) taken.ledger)
        (λ wire. let a = occurrences-append wire (open_in out.middle) (out.wire ∷ []) in let b = occurrences-append wire (open_in out.middle) [] in omega arith);
    exact = taken.exact;
  })

  pub output_wires : number_of_wires after.net ≡ number_of_wires before.net
  output_wires =
      let low : out.wire < number_of_wires out.middle.net = (let a = occurrences-append out.wire (open_in out.middle) (out.wire ∷ []) in taken.ledger.inside out.wire (grind arith)) in
      ap (λ (d : PlainDraft). number_of_wires d.net) out.added ∙ number_of_wires-output out.middle.net (output_rail port sign out.wire)
      ∙ (let e = ap (λ (d : PlainDraft). number_of_wires d.net) out.taken.taken in omega arith)

pub outputs_closing : (built : PlainBuilt) (port : ℕ) (literal : NodeLit) (sign : Sign) (left : List ℕ) (before after : PlainDraft) → IsClosing built (literal_number literal sign ∷ left) before
    → slice_get built.outputs port ≡ Some literal → literal.id.number < count_of built.graph → Outputs (literal_number literal sign) port sign before after → IsClosing built left after
outputs_closing built port literal sign left before after h stands within out = record {
  is_draft = output_draft (literal_number literal sign) port sign left before after h.is_draft out;
  spread = λ rail low. ap (λ (d : PlainDraft). readers_of d rail) out.added ∙ ap (λ (d : PlainDraft). readers_of d rail) out.taken.taken ∙ h.spread rail low;
  labels = h.labels;
  one_each = h.one_each ∙ sym (output_wires (literal_number literal sign) port sign left before after h.is_draft out);
  tracked = λ label f.
      let t = take_tracked built label before.pending before out.middle (literal_number literal sign) out.wire (h.tracked label f) out.taken in
      subst (λ (d : PlainDraft). IsTracked built label d.pending d) (sym out.added)
      (subst (λ (l : List (ℕ × ℕ)). IsTracked built label l (record out.middle { net = with_output out.middle.net port sign out.wire })) (sym same_pending) (record {
        stocked = t.0.stocked;
        inputs = t.0.inputs;
        gates = t.0.gates;
        backs = t.0.backs;
        fronts = t.0.fronts;
        waits = t.0.waits;
        constants = λ preload feed q n m. same_const label out.middle.net (with_output out.middle.net port sign out.wire) (λ cell k d. k) preload feed q n (t.0.constants preload feed q n m);
        outputs = λ rail m. elim (IsIn-append rail out.middle.net.output_rails (output_rail port sign out.wire ∷ []) m) [ inl k ↦ t.0.outputs rail k | inr k ↦ only label t.1 rail k ];
        states = t.0.states;
      }));
}
  where
    same_pending : out.middle.pending ≡ before.pending
    same_pending = ap (λ (d : PlainDraft). d.pending) out.taken.taken

    only : (label : ℕ → ℕ) → label out.wire ≡ literal_number literal sign → (rail : Rail) → IsIn rail (output_rail port sign out.wire ∷ []) → IsRailOfOutput built label rail
    only label e rail (inl s) = subst (λ (r : Rail). IsRailOfOutput built label r) s (record { literal = literal; stands = stands; within = within; wire_is = e })
    only label e rail (inr m) = absurd m

-- the netlist is labelled, and its ledger is closed
pub record IsClosed (built : PlainBuilt) (draft : PlainDraft) : Type 0 where
  pub label : ℕ → ℕ
  pub labelled : IsLabelled built label draft.net
  pub closed_ledger : IsLedger draft.net [] []

-- With no read left and no pair pending the netlist is sound, and its output rails carry the machine's bits.
module _ (built : PlainBuilt) (draft : PlainDraft) (h : IsClosing built [] draft) (none : draft.pending ≡ []) (all_rails : (rail : ℕ) → readers_of draft rail ≡ 0) where
  ledger : IsLedger draft.net [] []
  ledger = subst (λ (l : List (ℕ × ℕ)). IsLedger draft.net [] (map (λ (p : ℕ × ℕ). 0) l)) none
      (same_open draft.net (open_in draft ++ []) [] (map (λ (p : ℕ × ℕ). 0) draft.pending) h.is_draft.ledger (λ wire.
      let a = occurrences-append wire (open_in draft) [] in
      let b = ap (occurrences wire) (none_open draft.stock (λ rail. let e = h.is_draft.exact rail in omega arith)) in omega arith))

  tracked : IsTracked built (λ wire. slice_index_or h.labels wire 0) [] draft
  tracked = subst (λ (l : List (ℕ × ℕ)). IsTracked built (λ wire. slice_index_or h.labels wire 0) l draft) none (h.tracked (λ wire. slice_index_or h.labels wire 0) (λ wire low. refl))

  pub closed_sound : ((rail : Rail) → IsIn rail draft.net.input_rails → rail.port < draft.net.inputs) → ((rail : Rail) → IsIn rail draft.net.output_rails → rail.port < draft.net.outputs)
      → ((first later : ℕ) (rail other : Rail) → first < later → slice_get draft.net.input_rails first ≡ Some rail → slice_get draft.net.input_rails later ≡ Some other
      → rail.port ≡ other.port → rail.sign ≡ other.sign → ⊥)
      → ((k : ℕ) (line : StateLine) → slice_get draft.net.states k ≡ Some line → IsNamedBefore draft.net k line → ⊥) → IsSound draft.net
  closed_sound = tracked_sound built (λ wire. slice_index_or h.labels wire 0) draft tracked ledger

  pub all_closed : IsClosed built draft
  all_closed = record {
    label = λ wire. slice_index_or h.labels wire 0;
    labelled = tracked_labelled built (λ wire. slice_index_or h.labels wire 0) draft tracked;
    closed_ledger = ledger;
  }

  pub closed_carries : (machine : PlainMachine) → IsGraphOf machine built → NodesHaveTheirBits → (vectors run valuations : List (List Bool)) → IsNetRun draft.net vectors run
      → IsRun machine vectors valuations
      → OutputsCarry draft.net vectors run (bit_of machine valuations)
  closed_carries machine graph law vectors run valuations r v =
      runs_agree built (λ wire. slice_index_or h.labels wire 0) draft.net ledger (tracked_labelled built (λ wire. slice_index_or h.labels wire 0) draft tracked)
      graph.within.kept.tidy law machine graph vectors run valuations built.inits (first_state draft.net)
      (starts built (λ wire. slice_index_or h.labels wire 0) draft.net ledger (tracked_labelled built (λ wire. slice_index_or h.labels wire 0) draft tracked) graph.within.kept.tidy law)
      r (subst (λ (s : List Bool). IsRunFrom machine s vectors valuations) (sym graph.first_bits) v)

  pub closed_follow : (machine : PlainMachine) → IsGraphOf machine built → NodesHaveTheirBits → (vectors run valuations : List (List Bool)) → IsNetRun draft.net vectors run
      → IsRun machine vectors valuations → StatesFollow machine draft.net vectors valuations run
  closed_follow machine graph law vectors run valuations r v line m cycle le =
      let label : ℕ → ℕ = λ wire. slice_index_or h.labels wire 0 in
      let labelled = tracked_labelled built label draft tracked in
      let its = state_linked built label draft tracked line m in
      let latches = latches_from draft.net (first_state draft.net) run cycle in
      let back : IsBackFrom draft.net its.feed.number its.preload = record {
        back = Droc Back its.preload its.feed its.q its.n;
        among = IsIn-place (Droc Back its.preload its.feed its.q its.n) draft.net.cells line.cell.number its.back;
        role = (refl, refl, refl);
      } in
      ap (λ (o : Option Cell). unwrap_or (option_map (λ (cell : Cell). latches (feed_of cell)) o) false) its.back
      ∙ states_agree built label draft.net ledger labelled graph.within.kept.tidy law machine graph vectors run valuations built.inits (first_state draft.net)
      (starts built label draft.net ledger labelled graph.within.kept.tidy law) r (subst (λ (s : List Bool). IsRunFrom machine s vectors valuations) (sym graph.first_bits) v) cycle le
      its.feed.number line.latch its.preload back its.feed_is
      ∙ ap (λ (s : List Bool). bit_at (state_from machine s valuations cycle) line.latch) graph.first_bits

-- after all rails the reads of fronts and output rails are left
pub none_past : (counts : List ℕ) (rail : ℕ) → length counts ≤ rail → get_or counts rail 0 ≡ 0
none_past [] rail far = refl
none_past (n ∷ counts) zero far = absurd (omega arith)
none_past (n ∷ counts) (suc rail) far = none_past counts rail (omega arith)

pub stage_closing : (built : PlainBuilt) (demand : PlainDemand) (ask : Ask) (draft : PlainDraft) → IsStage built demand ask (rails_in built) draft
    → IsClosing built (front_uses built demand ++ output_uses built ask) draft × ((rail : ℕ) → readers_of draft rail ≡ 0)
stage_closing built demand ask draft h = (
  record {
    is_draft = subst (λ (l : List ℕ). IsDraft draft [] (map (λ (p : ℕ × ℕ). 0) draft.pending) l) no_gates h.is_draft;
    spread = h.is_at.spread;
    labels = h.labels;
    one_each = h.one_each;
    tracked = h.tracked;
  },
  all,
)
  where
    no_gates : left_from built demand ask (rails_in built) ≡ front_uses built demand ++ output_uses built ask
    no_gates = let z : rails_in built - rails_in built ≡ 0 = omega arith in
        ap (λ (k : ℕ). flat_map (rail_uses built demand) (range_with_len (rails_in built) k) ++ (front_uses built demand ++ output_uses built ask)) z

    all : (rail : ℕ) → readers_of draft rail ≡ 0
    all rail = elim (cases_lt rail (rails_in built)) [ inl low ↦ h.is_at.spread rail low | inr far ↦ none_past draft.counts rail (omega (arith, h.counts_size)) ]
