-- What it means that a machine was mapped to a netlist.
use Rattle.std.specs.Prelude.{◌≡◌, ◌≤◌, ◌+◌, ℕ, zero, suc, Bool, true, false, None, List, option_map, unwrap_or, slice_get, [], ◌∷◌, map, length, slice_index_or, if◌then◌else◌}
use Rattle.std.specs.List.{flat_map}
use Rattle.cell_netlist.specs.declared.kinds.Ask.{Ask}
use Rattle.cell_netlist.specs.declared.kinds.Gate.{Gate}
use Rattle.cell_netlist.specs.declared.kinds.Gate.TheVariants.{La, Fa}
use Rattle.cell_netlist.specs.declared.kinds.Version.{Version}
use Rattle.cell_netlist.specs.declared.lines.StateLine.{StateLine}
use Rattle.cell_netlist.specs.declared.kinds.Role.{Role}
use Rattle.cell_netlist.specs.declared.kinds.Role.TheVariants.{Front, Back, Const}
use Rattle.cell_netlist.specs.Asked.{Asks, rail_of}
use Rattle.cell_netlist.specs.Lean.{IsLean}
use Rattle.cell_netlist.specs.Names.{name_at}
use Rattle.cell_netlist.specs.NetRuns.{OutputsCarry, latches_from}
use Rattle.cell_netlist.specs.Netlists.{PlainNetlist}
use Rattle.cell_netlist.specs.RailEquations.{LatchState, IsNetRun, feed_of, first_state}
use Rattle.cell_netlist.specs.Sound.{IsSound}
use Rattle.source_machine.specs.Fitting.{size_of}
use Rattle.source_machine.specs.Laws.{AreVectors}
use Rattle.source_machine.specs.Machines.{PlainMachine}
use Rattle.pulse_ids.specs.Lists.{IsIn, bit_at}
use Rattle.source_machine.specs.Runs.{IsRun, bit_of, initial_state, next_state}
use Rattle.graph_build.specs.Built.{PlainBuilt}
use Rattle.rail_demand.specs.Demands.{PlainDemand}
use Rattle.rail_mapper.specs.Cells.{gate_in, role_in, gates_for, roles_for, inputs_for}
use Rattle.rail_mapper.specs.LatchStages.{latches_needed}
use Rattle.rail_mapper.specs.StateLines.{in_two, backs_from}

-- a netlist has a machine's numbers of ports, and the machine's name at each port
pub record Named (machine : PlainMachine) (net : PlainNetlist) : Type 0 where
  pub inputs : net.inputs ≡ length machine.inputs
  pub outputs : net.outputs ≡ length machine.outputs
  pub input_names : (port : ℕ) → name_at net.input_names port ≡ slice_index_or machine.input_names port None
  pub output_names : (port : ℕ) → name_at net.output_names port ≡ slice_index_or machine.output_names port None

-- The input rails and the cells of a netlist but for the splitters are exactly those that the needed rails ask for:
pub record HasCells (built : PlainBuilt) (demand : PlainDemand) (net : PlainNetlist) : Type 0 where
  -- an input rail for each needed rail of an input, by rising ports, the positive before the negative one
  pub input_rails : map rail_of net.input_rails ≡ inputs_for demand built.graph.inputs
  -- an LA for each needed positive rail of a conjunction and an FA for each needed negative one, by rising nodes
  pub gates : flat_map gate_in net.cells ≡ gates_for built demand
  -- a constant where a rail of it is needed, then a back for each latch of which a rail is needed, then as many fronts
  pub drocs : flat_map role_in net.cells ≡ roles_for built demand

-- The state lines of a netlist: none in version one, and in version two
pub record HasStates (built : PlainBuilt) (demand : PlainDemand) (version : Version) (net : PlainNetlist) : Type 0 where
  -- one for each latch of which a rail is needed, in order
  pub latches : map (λ line. line.latch) net.states ≡ in_two version (latches_needed built demand built.graph.latches)
  -- and they name exactly the backs
  pub cells : map (λ line. line.cell.number) net.states ≡ in_two version (backs_from 0 net.cells)

-- the bit that the cell of a state line keeps, where the backs are in this state
abbrev pub kept_bit : PlainNetlist → LatchState → StateLine → Bool
kept_bit net latches line = unwrap_or (option_map (λ cell. latches (feed_of cell)) (slice_get net.cells line.cell.number)) false

-- the state of a machine before the valuation of this number
abbrev pub state_from : PlainMachine → List Bool → List (List Bool) → ℕ → List Bool
state_from machine state valuations zero = state
state_from machine state valuations (suc cycle) = next_state machine (slice_index_or valuations cycle [])

-- in the cycle of each vector, and after the last, the cells of the state lines keep the machine's state
abbrev pub StatesFollow : PlainMachine → PlainNetlist → List (List Bool) → List (List Bool) → List (List Bool) → Type 0
StatesFollow machine net vectors valuations run = (line : StateLine) → IsIn line net.states → (cycle : ℕ) → cycle ≤ length vectors
    → kept_bit net (latches_from net (first_state net) run cycle) line ≡ bit_at (state_from machine (initial_state machine) valuations cycle) line.latch

-- A netlist of a machine, of whose graph these rails are needed:
pub record IsMapped (machine : PlainMachine) (built : PlainBuilt) (demand : PlainDemand) (ask : Ask) (version : Version) (net : PlainNetlist) : Type 0 where
  pub sound : IsSound net
  pub asked : Asks ask (length machine.outputs) net
  pub named : Named machine net
  -- it is of the version that was asked for; in version two it has a state line for each latch that it keeps, on its back
  pub of_version : net.version ≡ version
  pub states : HasStates built demand version net
  -- in every run on the machine's vectors the output rails carry the machine's outputs
  pub carries : (vectors valuations run : List (List Bool)) → AreVectors machine vectors → IsRun machine vectors valuations → IsNetRun net vectors run
      → OutputsCarry net vectors run (bit_of machine valuations)
  -- and the backs that the state lines name keep the machine's state
  pub follows : (vectors valuations run : List (List Bool)) → AreVectors machine vectors → IsRun machine vectors valuations → IsNetRun net vectors run
      → StatesFollow machine net vectors valuations run
  -- it has exactly the cells and input rails that the needed rails ask for
  pub cells : HasCells built demand net
  -- and it is lean: nothing in it is useless or there twice, no gate folds, and fan-out is no deeper than it has to be
  pub lean : IsLean net

-- whether two gates are of a kind
abbrev pub is_gate : Gate → Gate → Bool
is_gate La La = true
is_gate Fa Fa = true
is_gate one other = false

-- how many gates of a kind there are
abbrev pub gates_in : Gate → List Gate → ℕ
gates_in kind [] = 0
gates_in kind (gate ∷ gates) = (if is_gate kind gate then 1 else 0) + gates_in kind gates

-- whether two roles are the same
abbrev pub is_role : Role → Role → Bool
is_role Front Front = true
is_role Back Back = true
is_role Const Const = true
is_role one other = false

-- how many DROCs of a role there are
abbrev pub roles_in : Role → List Role → ℕ
roles_in kind [] = 0
roles_in kind (role ∷ roles) = (if is_role kind role then 1 else 0) + roles_in kind roles

-- the netlist has no more cells but for the splitters than the machine asks for
pub record HasFewCells (machine : PlainMachine) (net : PlainNetlist) : Type 0 where
  pub las : gates_in La (flat_map gate_in net.cells) ≤ size_of machine
  pub fas : gates_in Fa (flat_map gate_in net.cells) ≤ size_of machine
  pub constants : roles_in Const (flat_map role_in net.cells) ≤ 1
  pub backs : roles_in Back (flat_map role_in net.cells) ≤ length machine.latches
  pub fronts : roles_in Front (flat_map role_in net.cells) ≡ roles_in Back (flat_map role_in net.cells)
