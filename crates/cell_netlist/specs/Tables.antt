-- The tables of the cells.
use Rattle.std.specs.Prelude.{Bool, true, false, Option, Some, None}
use Rattle.cell_netlist.specs.declared.kinds.Gate.{Gate}
use Rattle.cell_netlist.specs.declared.kinds.Gate.TheVariants.{La, Fa}
use Rattle.cell_netlist.specs.declared.kinds.Held.{Held}
use Rattle.cell_netlist.specs.declared.kinds.Held.TheVariants.{Rest, HasA, HasB}
use Rattle.cell_netlist.specs.declared.kinds.Port.{Port}
use Rattle.cell_netlist.specs.declared.kinds.Port.TheVariants.{A, B}

-- What a gate holds after a pulse on a port, and whether it emits. An LA emits at the second arrival, an FA
-- at the first. A second pulse on one port has no line.
abbrev pub arrival : Gate → Held → Port → Option (Held × Bool)
arrival La Rest A = Some (HasA, false)
arrival La Rest B = Some (HasB, false)
arrival La HasA B = Some (Rest, true)
arrival La HasB A = Some (Rest, true)
arrival La HasA A = None
arrival La HasB B = None
arrival Fa Rest A = Some (HasA, true)
arrival Fa Rest B = Some (HasB, true)
arrival Fa HasA B = Some (Rest, false)
arrival Fa HasB A = Some (Rest, false)
arrival Fa HasA A = None
arrival Fa HasB B = None

-- The bit of a DROC after a pulse on its feed. A pulse on a bit that is 1 has no line.
abbrev pub fed : Bool → Option Bool
fed false = Some true
fed true = None
