-- The law on the bits of roots.
use Rattle.std.specs.Prelude.{◌≡◌, ℕ, Bool, List}
use Rattle.pulse_ids.specs.Lists.{bit_at}
use Rattle.cell_netlist.specs.Netlists.{PlainNetlist, IsRoot}
use Rattle.cell_netlist.specs.NetRuns.{bits_in}
use Rattle.cell_netlist.specs.RailEquations.{IsNetRun}

-- in each cycle of a run by the equations a wire carries the bit of its root
abbrev pub WiresCarryRootBits : Type 0
WiresCarryRootBits = (net : PlainNetlist) (vectors run : List (List Bool)) → IsNetRun net vectors run → (cycle root wire : ℕ) → IsRoot net root wire
    → bit_at (bits_in run cycle) wire ≡ bit_at (bits_in run cycle) root
