-- What steps on a draft add to its lines but for splitters, and what they leave as it was.
use Rattle.std.specs.Prelude.{◌≡◌, List, ◌++◌}
use Rattle.pulse_ids.specs.Lists.{IsIn}
use Rattle.std.specs.List.{flat_map}
use Rattle.cell_netlist.specs.declared.kinds.Gate.{Gate}
use Rattle.cell_netlist.specs.declared.kinds.Role.{Role}
use Rattle.cell_netlist.specs.declared.kinds.Role.TheVariants.{Back}
use Rattle.rail_mapper.specs.Cells.{gate_in, role_in}
use Rattle.rail_mapper.specs.Drafts.{PlainDraft}
use Rattle.rail_mapper.specs.FanOuts.{AreFannedOut}
use Rattle.rail_mapper.specs.Ports.{KeepsInputs, KeepsPorts}
use Rattle.rail_mapper.specs.StateLines.{backs_from}

-- the state lines and the places of the backs stay
pub record KeepsStates (before after : PlainDraft) : Type 0 where
  pub states : after.net.states ≡ before.net.states
  pub backs : backs_from 0 after.net.cells ≡ backs_from 0 before.net.cells

-- the ports, names and rails stay; these gates come behind the others, and DROCs of these roles behind the others; and no wire comes to
-- stand deeper below splitters than it may; where no back comes, the state lines stay too
pub record AddsLines (gates : List Gate) (roles : List Role) (before after : PlainDraft) : Type 0 where
  pub ports : KeepsPorts before after
  pub gates_added : flat_map gate_in after.net.cells ≡ flat_map gate_in before.net.cells ++ gates
  pub roles_added : flat_map role_in after.net.cells ≡ flat_map role_in before.net.cells ++ roles
  pub fanned_out : AreFannedOut before.net → AreFannedOut after.net
  pub states_kept : (IsIn Back roles → ⊥) → KeepsStates before after

-- all stays but for the output rails
pub record KeepsCells (before after : PlainDraft) : Type 0 where
  pub ports : KeepsInputs before after
  pub cells : after.net.cells ≡ before.net.cells
  pub states : after.net.states ≡ before.net.states
