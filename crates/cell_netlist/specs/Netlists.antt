-- The netlists that there are: those that have a text and not too many lines. With the words of what they are
-- made of, which stand in files of their own.
use Rattle.std.specs.Prelude.{◌≡◌, ◌≤◌, ◌<◌, ◌^◌, ℕ, length}
use Rattle.cell_netlist.specs.declared.lines.Rail.{Rail}
use Rattle.pulse_ids.specs.Lists.{IsIn}
use Rattle.pulse_ids.specs.Quantities.{greatest_of}
use Rattle.pulse_ids.specs.declared.quantities.Quantity.TheVariants.{Wires}
use Rattle.cell_netlist.specs.Names.{AreNamesFrom}
use Rattle.cell_netlist.specs.States.{AreStatesOf}
pub use Rattle.cell_netlist.specs.Feeds.{with_feed, cells_with_feed, IsDrocUpTo}
pub use Rattle.cell_netlist.specs.Grounding.{IsDroc, Grounded, of_rail, of_droc, of_gate}
pub use Rattle.cell_netlist.specs.PlainNetlists.{PlainNetlist, netlist_of, empty_netlist, with_states, versioned, wire_of, used, PlainGate, PlainSplitter, PlainDroc, gate_of, splitter_of, droc_of, outs, reads, driven, read, wire_bound, number_of_wires, cell_bound}
pub use Rattle.cell_netlist.specs.Roots.{Splits, HasSplitter, SplittersBelow, IsRoot}

-- A netlist that has a text: ports are numbers of 32 bits, the wires are not too many, the names of each side
-- stand in rising order of ports in range, and the state lines in rising order of latches, none in version one.
pub record IsNetlist (net : PlainNetlist) : Type 0 where
  pub inputs : net.inputs < 2 ^ 32
  pub outputs : net.outputs < 2 ^ 32
  pub input_ports : (rail : Rail) → IsIn rail net.input_rails → rail.port < 2 ^ 32
  pub output_ports : (rail : Rail) → IsIn rail net.output_rails → rail.port < 2 ^ 32
  pub wires : number_of_wires net ≤ greatest_of Wires
  pub input_names : AreNamesFrom 0 net.inputs net.input_names
  pub output_names : AreNamesFrom 0 net.outputs net.output_names
  pub states : AreStatesOf net.version net.states

-- the greatest number of lines of each kind in a netlist
abbrev pub most_lines : ℕ
most_lines = 2 ^ 27

-- A netlist has at most so many input rails, cells and output rails.
pub record HasFewLines (net : PlainNetlist) : Type 0 where
  pub input_rails : length net.input_rails ≤ most_lines
  pub cells : length net.cells ≤ most_lines
  pub output_rails : length net.output_rails ≤ most_lines

-- a netlist with its kept number of wires
pub record IsKept (net : PlainNetlist) (wires : ℕ) : Type 0 where
  pub netlist : IsNetlist net
  pub few : HasFewLines net
  pub wires_are : wires ≡ number_of_wires net
