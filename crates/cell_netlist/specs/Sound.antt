-- The ten rules of soundness, and the first refusal of a netlist that breaks one.
use Rattle.std.specs.Prelude.{◌≡◌, ◌⊎◌, ◌≤◌, ◌<◌, ℕ, Bool, not, Option, Some, None, slice_get}
use Rattle.pulse_ids.specs.Ids.{WireId}
use Rattle.cell_netlist.specs.declared.kinds.Role.{Role}
use Rattle.cell_netlist.specs.declared.kinds.Role.TheVariants.{Front, Back, Const}
use Rattle.cell_netlist.specs.declared.lines.Rail.{Rail}
use Rattle.cell_netlist.specs.declared.lines.StateLine.{StateLine}
use Rattle.cell_netlist.specs.declared.lines.Cell.{Cell}
use Rattle.cell_netlist.specs.declared.lines.Cell.TheVariants.{Droc}
use Rattle.cell_netlist.specs.declared.unsound.RailLine.TheVariants.{Input, Output}
use Rattle.cell_netlist.specs.declared.unsound.Unsound.{Unsound}
use Rattle.cell_netlist.specs.declared.unsound.Unsound.TheVariants.{WireUndriven, WireTwiceDriven, WireUnread, WireTwiceRead, PortRange, RailTwice, Loop, LooseDroc, WrongPreload, LooseState}
use Rattle.pulse_ids.specs.Lists.{IsIn, occurrences}
use Rattle.cell_netlist.specs.Wired.{IsWired}
use Rattle.cell_netlist.specs.Netlists.{PlainNetlist, driven, read, outs, number_of_wires, SplittersBelow, IsDroc, Grounded}

-- this output of a DROC is used, on this wire
abbrev pub IsOn : Option WireId → ℕ → Type 0
IsOn None wire = ⊥
IsOn (Some used) wire = used.number ≡ wire

-- a DROC of this role and preload, with its feed
abbrev pub IsDrocOf : Cell → Role → Bool → ℕ → Type 0
IsDrocOf (Droc its_role its_preload its_feed q n) role preload feed = (its_role ≡ role) × (its_preload ≡ preload) × (its_feed.number ≡ feed)
IsDrocOf cell role preload feed = ⊥

-- the output `q` of a cell is on this wire
abbrev pub HasQ : Cell → ℕ → Type 0
HasQ (Droc role preload feed q n) wire = IsOn q wire
HasQ cell wire = ⊥

-- a front of this preload whose `q` is the wire
pub record IsFrontTo (net : PlainNetlist) (link : ℕ) (preload : Bool) : Type 0 where
  pub front : Cell
  pub among : IsIn front net.cells
  pub feed : ℕ
  pub role : IsDrocOf front Front preload feed
  pub q : HasQ front link

-- a back of this preload whose feed is the wire
pub record IsBackFrom (net : PlainNetlist) (link : ℕ) (preload : Bool) : Type 0 where
  pub back : Cell
  pub among : IsIn back net.cells
  pub role : IsDrocOf back Back preload link

-- A DROC fits its role: a front has a `q`, which is the feed of a back, and no `n`; a back's feed is the `q` of
-- a front; from a constant's own `n` a chain of splitters leads to its feed.
abbrev pub FitsRole : PlainNetlist → Cell → Type 0
FitsRole net (Droc Front preload feed q n) =
    (n ≡ None) × (link : ℕ) × IsOn q link × (its_preload : Bool) × IsBackFrom net link its_preload
FitsRole net (Droc Back preload feed q n) = (its_preload : Bool) × IsFrontTo net feed.number its_preload
FitsRole net (Droc Const preload feed q n) =
    (own : ℕ) × IsOn n own × (splitters : ℕ) × SplittersBelow net splitters own feed.number
FitsRole net cell = Unit

-- a back
abbrev pub IsBack : Cell → Type 0
IsBack (Droc Back preload feed q n) = Unit
IsBack cell = ⊥

-- a state line names a back
abbrev pub NamesBack : PlainNetlist → StateLine → Type 0
NamesBack net line = (cell : Cell) × (slice_get net.cells line.cell.number ≡ Some cell) × IsBack cell

-- a state line before the one of this number names the same cell
abbrev pub IsNamedBefore : PlainNetlist → ℕ → StateLine → Type 0
IsNamedBefore net k line =
    (first : ℕ) × (earlier : StateLine) × (first < k) × (slice_get net.states first ≡ Some earlier) × (earlier.cell.number ≡ line.cell.number)

-- Each state line's cell is a back, and no two state lines name one cell.
pub record AreStatesRight (net : PlainNetlist) : Type 0 where
  pub backs : (line : StateLine) → IsIn line net.states → NamesBack net line
  pub apart : (k : ℕ) (line : StateLine) → slice_get net.states k ≡ Some line → IsNamedBefore net k line → ⊥

-- The ten rules.
pub record IsSound (net : PlainNetlist) : Type 0 where
  -- every wire has one driver and one reader, which are four rules
  pub wired : IsWired net
  -- ports are in range
  pub input_ports : (rail : Rail) → IsIn rail net.input_rails → rail.port < net.inputs
  pub output_ports : (rail : Rail) → IsIn rail net.output_rails → rail.port < net.outputs
  -- no two input rails have the same port and sign
  pub none_twice : (first later : ℕ) (rail other : Rail) → first < later → slice_get net.input_rails first ≡ Some rail
      → slice_get net.input_rails later ≡ Some other → rail.port ≡ other.port → rail.sign ≡ other.sign → ⊥
  -- every output of an LA, FA or splitter is grounded
  pub grounded : (cell : Cell) → IsIn cell net.cells → (IsDroc cell → ⊥) → (wire : ℕ) → IsIn wire (outs cell) → Grounded net wire
  -- each DROC fits its role
  pub roles : (cell : Cell) → IsIn cell net.cells → FitsRole net cell
  -- a back's preload is the complement of its front's
  pub preloads : (link : ℕ) (front back : Bool) → IsFrontTo net link front → IsBackFrom net link back → back ≡ not front
  -- each state line's cell is a back, and no two name one cell
  pub states : AreStatesRight net

-- Where and how a netlist breaks a rule.
abbrev pub Breaks : PlainNetlist → Unsound → Type 0
Breaks net (WireUndriven wire) = (wire.number < number_of_wires net) × (occurrences wire.number (driven net) ≡ 0)
Breaks net (WireTwiceDriven wire) = 2 ≤ occurrences wire.number (driven net)
Breaks net (WireUnread wire) = (wire.number < number_of_wires net) × (occurrences wire.number (read net) ≡ 0)
Breaks net (WireTwiceRead wire) = 2 ≤ occurrences wire.number (read net)
Breaks net (PortRange (Input id)) = (rail : Rail) × (slice_get net.input_rails id.number ≡ Some rail) × (net.inputs ≤ rail.port)
Breaks net (PortRange (Output id)) = (rail : Rail) × (slice_get net.output_rails id.number ≡ Some rail) × (net.outputs ≤ rail.port)
Breaks net (RailTwice id) =
    (first : ℕ) × (rail : Rail) × (other : Rail) × (first < id.number) × (slice_get net.input_rails first ≡ Some rail)
    × (slice_get net.input_rails id.number ≡ Some other) × (rail.port ≡ other.port) × (rail.sign ≡ other.sign)
Breaks net (Loop id) =
    (cell : Cell) × (slice_get net.cells id.number ≡ Some cell) × (IsDroc cell → ⊥) × (wire : ℕ) × IsIn wire (outs cell) × (Grounded net wire → ⊥)
Breaks net (LooseDroc id) = (cell : Cell) × (slice_get net.cells id.number ≡ Some cell) × (FitsRole net cell → ⊥)
Breaks net (WrongPreload id) =
    (cell : Cell) × (slice_get net.cells id.number ≡ Some cell) × (link : ℕ) × (back : Bool) × (front : Bool)
    × IsDrocOf cell Back back link × IsFrontTo net link front × (back ≡ not front → ⊥)
Breaks net (LooseState k) =
    (line : StateLine) × (slice_get net.states k ≡ Some line) × ((NamesBack net line → ⊥) ⊎ IsNamedBefore net k line)

-- the place of a refusal in the order of the rules, where input rails come before output rails
abbrev pub rule_of : Unsound → ℕ
rule_of (WireUndriven wire) = 1
rule_of (WireTwiceDriven wire) = 2
rule_of (WireUnread wire) = 3
rule_of (WireTwiceRead wire) = 4
rule_of (PortRange (Input id)) = 5
rule_of (PortRange (Output id)) = 6
rule_of (RailTwice id) = 7
rule_of (Loop id) = 8
rule_of (LooseDroc id) = 9
rule_of (WrongPreload id) = 10
rule_of (LooseState k) = 11

-- the number that a refusal names
abbrev pub number_in : Unsound → ℕ
number_in (WireUndriven wire) = wire.number
number_in (WireTwiceDriven wire) = wire.number
number_in (WireUnread wire) = wire.number
number_in (WireTwiceRead wire) = wire.number
number_in (PortRange (Input id)) = id.number
number_in (PortRange (Output id)) = id.number
number_in (RailTwice id) = id.number
number_in (Loop id) = id.number
number_in (LooseDroc id) = id.number
number_in (WrongPreload id) = id.number
number_in (LooseState k) = k

-- an earlier rule, or the same rule at a lower number
abbrev pub ComesBefore : Unsound → Unsound → Type 0
ComesBefore first later = (rule_of first < rule_of later) ⊎ ((rule_of first ≡ rule_of later) × (number_in first < number_in later))

-- the refusal of a netlist: it breaks that rule there, and none before
pub record IsFirstUnsound (net : PlainNetlist) (unsound : Unsound) : Type 0 where
  pub breaks : Breaks net unsound
  pub first : (other : Unsound) → Breaks net other → ComesBefore other unsound → ⊥
