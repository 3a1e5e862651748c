-- A draft with all lines and the names of the ports is the netlist of the machine.
use Rattle.std.proofs.Common.{◌≡◌, ◌<◌, ◌∙◌, ℕ, Option, List, map, length, ap, sym, subst, refl, arith}
use Rattle.pulse_ids.specs.Lists.{IsIn}
use Rattle.pulse_ids.specs.declared.literals.Sign.{Sign}
use Rattle.pulse_ids.proofs.CallerLemmas.{IsIn-map}
use Rattle.cell_netlist.specs.declared.kinds.Ask.{Ask}
use Rattle.cell_netlist.specs.declared.kinds.Version.{Version}
use Rattle.cell_netlist.specs.declared.lines.Rail.{Rail}
use Rattle.cell_netlist.specs.Asked.{rail_of, asked_rails, Asks}
use Rattle.cell_netlist.specs.Lean.{IsLean}
use Rattle.cell_netlist.specs.Netlists.{PlainNetlist}
use Rattle.cell_netlist.specs.Sound.{IsSound}
use Rattle.aig_core.specs.Laws.{NodesHaveTheirBits}
use Rattle.source_machine.specs.Machines.{PlainMachine}
use Rattle.graph_build.specs.Built.{PlainBuilt, IsGraphOf}
use Rattle.rail_demand.specs.Demands.{PlainDemand, IsDemand}
use Rattle.rail_mapper.specs.Drafts.{PlainDraft}
use Rattle.rail_mapper.specs.Makings.{HasFrame, LinesStand}
use Rattle.rail_mapper.specs.Mapped.{HasCells, IsMapped}
use Rattle.rail_mapper.specs.Naming.{HasNames, NamesPorts}
use Rattle.rail_mapper.specs.Ports.{KeepsInputs}
use Rattle.rail_mapper.proofs.BackPlaces.{rising_states}
use Rattle.rail_mapper.proofs.FanOutCells.{kept_fanned_out}
use Rattle.rail_mapper.proofs.LeanNets.{HasNodeLaws, net_lean}
use Rattle.rail_mapper.proofs.NamedDrafts.{with_names, named_draft, named_outputs}
use Rattle.rail_mapper.proofs.NeededInputs.{inputs_within, inputs_none_twice}
use Rattle.rail_mapper.proofs.OutputStageLemmas.{ends_sound, ends_closed, ends_carries, ends_follow}

-- what keeps the ports keeps the frame
pub frame_kept : {version : Version} (built : PlainBuilt) (demand : PlainDemand) (before after : PlainDraft) → HasFrame built demand version before → KeepsInputs before after
    → HasFrame built demand version after
frame_kept built demand before after h kept = record {
  inputs = kept.inputs ∙ h.inputs;
  outputs = kept.outputs ∙ h.outputs;
  input_rails = ap (map rail_of) kept.input_rails ∙ h.input_rails;
  no_input_names = kept.input_names ∙ h.no_input_names;
  no_output_names = kept.output_names ∙ h.no_output_names;
  of_version = kept.version ∙ h.of_version;
}

module _ (machine : PlainMachine) (built : PlainBuilt) (demand : PlainDemand) (ask : Ask) (version : Version) (graph : IsGraphOf machine built) (draft : PlainDraft)
    (h : LinesStand built demand ask version draft)
    (inputs outputs : List (ℕ × List ℕ)) where
  abbrev its : PlainDraft
  its = named_draft draft inputs outputs

  input_low : (rail : Rail) → IsIn rail its.net.input_rails → rail.port < its.net.inputs
  input_low rail m =
      let i : IsIn (rail_of rail) (map rail_of draft.net.input_rails) = IsIn-map rail_of rail draft.net.input_rails m in
      let low = inputs_within demand built.graph.inputs (rail_of rail) (subst (λ (l : List (ℕ × Sign)). IsIn (rail_of rail) l) h.frame.input_rails i) in
      omega (arith, h.frame.inputs)

  pub made_sound : IsSound its.net
  made_sound = ends_sound built ask its (named_outputs built ask (length built.outputs) draft inputs outputs h.outputs) h.frame.outputs input_low
      (inputs_none_twice rail_of demand built.graph.inputs draft.net.input_rails h.frame.input_rails) (rising_states its.net version h.states.cells)

  made_cells : HasCells built demand its.net
  made_cells = record { input_rails = h.frame.input_rails; gates = h.gates; drocs = h.roles }

  made_asked : Asks ask (length built.outputs) its.net
  made_asked = h.outputs.rails

  made_lean : HasNodeLaws → IsDemand built ask demand → IsLean its.net
  made_lean laws exact =
      let closed = ends_closed built ask its (named_outputs built ask (length built.outputs) draft inputs outputs h.outputs) in
      net_lean laws built demand ask closed.label its.net closed.labelled made_sound closed.closed_ledger graph.within exact made_asked made_cells
      (kept_fanned_out draft.net its.net refl refl h.fanned_out)

  pub made_mapped : NodesHaveTheirBits → HasNodeLaws → IsDemand built ask demand → HasNames machine.input_names inputs → HasNames machine.output_names outputs
      → IsMapped machine built demand ask version its.net
  made_mapped law laws exact in_named out_named = record {
    sound = made_sound;
    asked = h.outputs.rails ∙ ap (asked_rails ask) graph.one_output_each;
    of_version = h.frame.of_version;
    states = record { latches = h.states.latches; cells = h.states.cells };
    follows = λ vectors valuations run fit ran net_ran.
        ends_follow built ask its (named_outputs built ask (length built.outputs) draft inputs outputs h.outputs) machine graph law vectors run valuations net_ran ran;
    named = record { inputs = h.frame.inputs ∙ graph.inputs; outputs = h.frame.outputs ∙ graph.one_output_each; input_names = in_named; output_names = out_named };
    carries = λ vectors valuations run fit ran net_ran.
        ends_carries built ask its (named_outputs built ask (length built.outputs) draft inputs outputs h.outputs) machine graph law vectors run valuations net_ran ran;
    cells = made_cells;
    lean = made_lean laws exact;
  }

-- the same of a netlist that got its names
pub net_sound : (machine : PlainMachine) (built : PlainBuilt) (demand : PlainDemand) (ask : Ask) (version : Version) → IsGraphOf machine built
    → (draft : PlainDraft) → LinesStand built demand ask version draft
    → (input_names output_names : List (Option (List ℕ))) (old net : PlainNetlist)
    → old ≡ draft.net → NamesPorts input_names output_names old net → IsSound net
net_sound machine built demand ask version graph draft h input_names output_names old net same names =
    subst IsSound (sym (names.added ∙ ap (λ (n : PlainNetlist). with_names n net.input_names net.output_names) same))
    (made_sound machine built demand ask version graph draft h net.input_names net.output_names)

pub net_mapped : (machine : PlainMachine) (built : PlainBuilt) (demand : PlainDemand) (ask : Ask) (version : Version) → IsGraphOf machine built → NodesHaveTheirBits → HasNodeLaws
    → IsDemand built ask demand → (draft : PlainDraft) → LinesStand built demand ask version draft → (old net : PlainNetlist)
    → old ≡ draft.net → NamesPorts machine.input_names machine.output_names old net → IsMapped machine built demand ask version net
net_mapped machine built demand ask version graph law laws exact draft h old net same names =
    subst (IsMapped machine built demand ask version) (sym (names.added ∙ ap (λ (n : PlainNetlist). with_names n net.input_names net.output_names) same))
    (made_mapped machine built demand ask version graph draft h net.input_names net.output_names law laws exact names.inputs names.outputs)
