-- Laws on ledgers: where they begin, what each kind of line does to them, and what a ledger with nothing open comes to.
use Rattle.std.specs.Prelude.{◌≡◌, ◌≤◌, ◌<◌, ◌+◌, ℕ, Bool, not, Option, Some, List, [], ◌∷◌, ◌++◌, slice_get}
use Rattle.std.specs.List.{range_with_len}
use Rattle.pulse_ids.specs.Ids.{WireId}
use Rattle.pulse_ids.specs.Lists.{IsIn, occurrences}
use Rattle.cell_netlist.specs.declared.kinds.Role.{Role}
use Rattle.cell_netlist.specs.declared.lines.Rail.{Rail}
use Rattle.cell_netlist.specs.declared.lines.Cell.{Cell}
use Rattle.cell_netlist.specs.declared.lines.Cell.TheVariants.{Droc}
use Rattle.cell_netlist.specs.Netlists.{PlainNetlist, empty_netlist, wire_of, used, number_of_wires, Grounded, cells_with_feed}
use Rattle.cell_netlist.specs.Wired.{IsWired}
use Rattle.cell_netlist.specs.Sound.{FitsRole, IsFrontTo, IsBackFrom, AreStatesRight, IsSound}
use Rattle.wire_ledgers.specs.Ledgers.{IsLedger, AddsCells}
use Rattle.splitter_trees.specs.Spreading.{with_cells}

-- a netlist with no lines has a ledger with nothing open
abbrev pub LedgersBegin : Type 0
LedgersBegin = (inputs outputs : ℕ) → IsLedger (empty_netlist inputs outputs) [] []

-- which wires are open is a matter of counts, and an open wire settles a debt of its own
abbrev pub DebtsAreSettled : Type 0
DebtsAreSettled = (net : PlainNetlist) (before after debts left : List ℕ) → IsLedger net before debts
    → ((wire : ℕ) → occurrences wire after ≤ occurrences wire before)
    → ((wire : ℕ) → occurrences wire after + occurrences wire debts ≡ occurrences wire before + occurrences wire left)
    → IsLedger net after left

-- an input rail before all cells opens the next wire
abbrev pub InputsOpen : Type 0
InputsOpen = (net : PlainNetlist) (rail : Rail) (open_wires debts : List ℕ) → IsLedger net open_wires debts → net.cells ≡ []
    → wire_of rail ≡ number_of_wires net → IsLedger (record net { input_rails = net.input_rails ++ rail ∷ [] }) (wire_of rail ∷ open_wires) debts

-- an output rail closes an open wire
abbrev pub OutputsClose : Type 0
OutputsClose = (net : PlainNetlist) (rail : Rail) (before after debts : List ℕ) → IsLedger net before debts
    → ((wire : ℕ) → occurrences wire (wire_of rail ∷ after) ≡ occurrences wire before)
    → IsLedger (record net { output_rails = net.output_rails ++ rail ∷ [] }) after debts

-- cells close what they read and open what they drive
abbrev pub CellsMoveOn : Type 0
CellsMoveOn = (old new : PlainNetlist) (before after debts_before debts_after : List ℕ) → IsLedger old before debts_before
    → AddsCells old new before after debts_before debts_after → IsLedger new after debts_after

-- a DROC opens its outputs, which are the next wires, at the debt of its feed
abbrev pub DrocsOpen : Type 0
DrocsOpen = (net : PlainNetlist) (role : Role) (preload : Bool) (feed : WireId) (q n : Option WireId) (more : ℕ) (open_wires debts : List ℕ)
    → IsLedger net open_wires debts → used q ++ used n ≡ range_with_len (number_of_wires net) more → feed.number < number_of_wires net + more
    → IsLedger (with_cells net (Droc role preload feed q n ∷ [])) ((used q ++ used n) ++ open_wires) (feed.number ∷ debts)

-- another feed of a DROC, that is not below the old one, takes over the debt
abbrev pub FeedsTakeOver : Type 0
FeedsTakeOver = (net : PlainNetlist) (place : ℕ) (role : Role) (preload : Bool) (feed wire : WireId) (q n : Option WireId) (open_wires debts : List ℕ)
    → IsLedger net open_wires (feed.number ∷ debts) → slice_get net.cells place ≡ Some (Droc role preload feed q n)
    → feed.number ≤ wire.number → wire.number < number_of_wires net
    → IsLedger (record net { cells = cells_with_feed place wire net.cells }) open_wires (wire.number ∷ debts)

-- where nothing is open and no debt is left, each wire has one driver and one reader
abbrev pub ClosedLedgersAreWired : Type 0
ClosedLedgersAreWired = (net : PlainNetlist) → IsLedger net [] [] → IsWired net

-- whatever is open, each wire is grounded
abbrev pub LedgersAreGrounded : Type 0
LedgersAreGrounded = (net : PlainNetlist) (open_wires debts : List ℕ) → IsLedger net open_wires debts
    → (wire : ℕ) → wire < number_of_wires net → Grounded net wire

-- the rules of soundness that speak of ports, of roles and of state lines
pub record HasPortsAndRoles (net : PlainNetlist) : Type 0 where
  pub input_ports : (rail : Rail) → IsIn rail net.input_rails → rail.port < net.inputs
  pub output_ports : (rail : Rail) → IsIn rail net.output_rails → rail.port < net.outputs
  pub none_twice : (first later : ℕ) (rail other : Rail) → first < later → slice_get net.input_rails first ≡ Some rail
      → slice_get net.input_rails later ≡ Some other → rail.port ≡ other.port → rail.sign ≡ other.sign → ⊥
  pub roles : (cell : Cell) → IsIn cell net.cells → FitsRole net cell
  pub preloads : (link : ℕ) (front back : Bool) → IsFrontTo net link front → IsBackFrom net link back → back ≡ not front
  pub states : AreStatesRight net

-- and with these rules the netlist is sound
abbrev pub ClosedLedgersAreSound : Type 0
ClosedLedgersAreSound = (net : PlainNetlist) → IsLedger net [] [] → HasPortsAndRoles net → IsSound net
