-- State lines: which latch each one names, and on which cell.
use Rattle.std.specs.Prelude.{◌≡◌, ◌≤◌, ◌<◌, ◌+◌, ◌^◌, ℕ, List, [], ◌∷◌}
use Rattle.pulse_ids.specs.Lists.{IsIn}
use Rattle.pulse_ids.specs.Quantities.{greatest_of}
use Rattle.pulse_ids.specs.declared.quantities.Quantity.TheVariants.{Latches}
use Rattle.cell_netlist.specs.declared.kinds.Version.{Version}
use Rattle.cell_netlist.specs.declared.kinds.Version.TheVariants.{One, Two}
use Rattle.cell_netlist.specs.declared.lines.StateLine.{StateLine}

-- state lines whose latches rise from a lowest one and are within their limit, and whose cells are numbers of 32 bits
abbrev pub AreStatesFrom : ℕ → List StateLine → Type 0
AreStatesFrom low [] = Unit
AreStatesFrom low (line ∷ lines) = (low ≤ line.latch) × (line.latch < greatest_of Latches) × (line.cell.number < 2 ^ 32) × AreStatesFrom (line.latch + 1) lines

-- the state lines of a netlist of this version: none in version one
abbrev pub AreStatesOf : Version → List StateLine → Type 0
AreStatesOf One lines = lines ≡ []
AreStatesOf Two lines = AreStatesFrom 0 lines

-- a latch is above that of every state line
abbrev pub IsAboveStates : ℕ → List StateLine → Type 0
IsAboveStates latch lines = (line : StateLine) → IsIn line lines → line.latch < latch
