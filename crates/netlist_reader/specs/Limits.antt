-- The limits that a line is judged against, from the left.
use Rattle.std.specs.Prelude.{ℕ, List, Option, Some, None, length, nat_lt, if◌then◌else◌}
use Rattle.std.specs.Option.{option_or}
use Rattle.pulse_ids.specs.Ids.{WireId}
use Rattle.pulse_ids.specs.Quantities.{greatest_of}
use Rattle.pulse_ids.specs.declared.quantities.Quantity.{Quantity}
use Rattle.pulse_ids.specs.declared.quantities.Quantity.TheVariants as quantities
use Rattle.cell_netlist.specs.declared.lines.Cell.{Cell}
use Rattle.cell_netlist.specs.declared.lines.Cell.TheVariants.{La, Fa, Split, Droc}
use Rattle.netlist_reader.specs.declared.statements.Statement.{Statement}
use Rattle.netlist_reader.specs.declared.statements.Statement.TheVariants.{Version, Ports, Input, OneCell, Output, State, InputName, OutputName, End}
use Rattle.netlist_reader.specs.Words.{name_in}

-- more than the greatest number of a quantity
abbrev pub over : Quantity → ℕ → Option Quantity
over quantity count = if nat_lt (greatest_of quantity) count then Some quantity else None

-- the number of a wire is below that of all wires
abbrev pub over_wire : WireId → Option Quantity
over_wire wire = if nat_lt wire.number (greatest_of quantities.Wires) then None else Some quantities.Wires

abbrev pub over_output : Option WireId → Option Quantity
over_output None = None
over_output (Some wire) = over_wire wire

abbrev pub over_cell : Cell → Option Quantity
over_cell (La a b out) = option_or (over_wire a) (option_or (over_wire b) (over_wire out))
over_cell (Fa a b out) = option_or (over_wire a) (option_or (over_wire b) (over_wire out))
over_cell (Split from left right) = option_or (over_wire from) (option_or (over_wire left) (over_wire right))
over_cell (Droc role preload feed q n) = option_or (over_wire feed) (option_or (over_output q) (over_output n))

-- the number of a latch is below that of all latches
abbrev pub over_latch : ℕ → Option Quantity
over_latch latch = if nat_lt latch (greatest_of quantities.Latches) then None else Some quantities.Latches

abbrev pub over_name : List ℕ → Option Quantity
over_name line = over quantities.NameBytes (length (name_in line))

-- the first limit that a line of this statement passes
abbrev pub limit_of : List ℕ → Statement → Option Quantity
limit_of line (Version version) = None
limit_of line (Ports inputs outputs) = option_or (over quantities.Inputs inputs) (over quantities.Outputs outputs)
limit_of line (Input rail) = over_wire rail.wire
limit_of line (OneCell cell) = over_cell cell
limit_of line (Output rail) = over_wire rail.wire
limit_of line (State state) = over_latch state.latch
limit_of line (InputName port) = over_name line
limit_of line (OutputName port) = over_name line
limit_of line End = None
