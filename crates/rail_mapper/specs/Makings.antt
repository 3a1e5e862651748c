-- How far a netlist has come on its way from a graph.
use Rattle.std.specs.Prelude.{◌≡◌, ◌+◌, ◌*◌, [], map, length}
use Rattle.std.specs.List.{flat_map}
use Rattle.cell_netlist.specs.declared.kinds.Ask.{Ask}
use Rattle.cell_netlist.specs.declared.kinds.Version.{Version}
use Rattle.cell_netlist.specs.Asked.{rail_of}
use Rattle.graph_build.specs.Built.{PlainBuilt}
use Rattle.rail_demand.specs.Demands.{PlainDemand}
use Rattle.rail_mapper.specs.Cells.{gate_in, role_in, gates_for, constant_for, roles_for, inputs_for}
use Rattle.rail_mapper.specs.Drafts.{PlainDraft}
use Rattle.rail_mapper.specs.FanOuts.{AreFannedOut}
use Rattle.rail_mapper.specs.LatchStages.{FrontsAt}
use Rattle.rail_mapper.specs.Mapped.{HasStates}
use Rattle.rail_mapper.specs.OutputStages.{OutputsAt}
use Rattle.rail_mapper.specs.Stages.{IsStage}

-- the version, the graph's numbers of ports, the needed rails of inputs, and no names
pub record HasFrame (built : PlainBuilt) (demand : PlainDemand) (version : Version) (draft : PlainDraft) : Type 0 where
  pub inputs : draft.net.inputs ≡ built.graph.inputs
  pub outputs : draft.net.outputs ≡ length built.outputs
  pub input_rails : map rail_of draft.net.input_rails ≡ inputs_for demand built.graph.inputs
  pub no_input_names : draft.net.input_names ≡ []
  pub no_output_names : draft.net.output_names ≡ []
  pub of_version : draft.net.version ≡ version

-- the input rails, the constant and the trees of both stand
pub record InputsStand (built : PlainBuilt) (demand : PlainDemand) (ask : Ask) (version : Version) (draft : PlainDraft) : Type 0 where
  pub stage : IsStage built demand ask (2 * (1 + built.graph.inputs)) draft
  pub no_pending : draft.pending ≡ []
  pub frame : HasFrame built demand version draft
  pub no_outputs : draft.net.output_rails ≡ []
  pub no_gates : flat_map gate_in draft.net.cells ≡ []
  pub roles : flat_map role_in draft.net.cells ≡ constant_for demand
  pub no_states : draft.net.states ≡ []
  pub fanned_out : AreFannedOut draft.net

-- all cells stand
pub record CellsStand (built : PlainBuilt) (demand : PlainDemand) (ask : Ask) (version : Version) (draft : PlainDraft) : Type 0 where
  pub fronts : FrontsAt built ask draft
  pub no_pending : draft.pending ≡ []
  pub frame : HasFrame built demand version draft
  pub no_outputs : draft.net.output_rails ≡ []
  pub gates : flat_map gate_in draft.net.cells ≡ gates_for built demand
  pub roles : flat_map role_in draft.net.cells ≡ roles_for built demand
  pub states : HasStates built demand version draft.net
  pub fanned_out : AreFannedOut draft.net

-- all lines stand
pub record LinesStand (built : PlainBuilt) (demand : PlainDemand) (ask : Ask) (version : Version) (draft : PlainDraft) : Type 0 where
  pub outputs : OutputsAt built ask (length built.outputs) draft
  pub frame : HasFrame built demand version draft
  pub gates : flat_map gate_in draft.net.cells ≡ gates_for built demand
  pub roles : flat_map role_in draft.net.cells ≡ roles_for built demand
  pub states : HasStates built demand version draft.net
  pub fanned_out : AreFannedOut draft.net
