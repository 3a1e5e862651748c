-- A netlist as plain lists, the wires that its lines drive and read, and how many wires it has.
use Rattle.std.specs.Prelude.{◌+◌, ℕ, Bool, max, Option, Some, None, List, [], ◌∷◌, ◌++◌, map}
use Rattle.std.specs.List.{flat_map}
use Rattle.pulse_ids.specs.Ids.{WireId}
use Rattle.cell_netlist.specs.declared.kinds.Gate.{Gate}
use Rattle.cell_netlist.specs.declared.kinds.Gate.TheVariants as gates
use Rattle.cell_netlist.specs.declared.kinds.Role.{Role}
use Rattle.cell_netlist.specs.declared.kinds.Version.{Version}
use Rattle.cell_netlist.specs.declared.kinds.Version.TheVariants.{One}
use Rattle.cell_netlist.specs.declared.lines.Rail.{Rail}
use Rattle.cell_netlist.specs.declared.lines.StateLine.{StateLine}
use Rattle.cell_netlist.specs.declared.lines.Cell.{Cell}
use Rattle.cell_netlist.specs.declared.lines.Cell.TheVariants.{La, Fa, Split, Droc}

-- the numbers of ports, the lines in order, the named ports of each side with their names, the version, and the
-- state lines in order
pub record PlainNetlist : Type 0 where
  pub inputs : ℕ
  pub outputs : ℕ
  pub input_rails : List Rail
  pub cells : List Cell
  pub output_rails : List Rail
  pub input_names : List (ℕ × List ℕ)
  pub output_names : List (ℕ × List ℕ)
  pub version : Version
  pub states : List StateLine

-- a netlist of version one of these parts
abbrev pub netlist_of : ℕ → ℕ → List Rail → List Cell → List Rail → List (ℕ × List ℕ) → List (ℕ × List ℕ) → PlainNetlist
netlist_of inputs outputs input_rails cells output_rails input_names output_names = record {
  inputs = inputs;
  outputs = outputs;
  input_rails = input_rails;
  cells = cells;
  output_rails = output_rails;
  input_names = input_names;
  output_names = output_names;
  version = One;
  states = [];
}

-- a netlist of version one of these ports and no lines
abbrev pub empty_netlist : ℕ → ℕ → PlainNetlist
empty_netlist inputs outputs = netlist_of inputs outputs [] [] [] [] []

-- a netlist with another version and other state lines
abbrev pub with_states : Version → List StateLine → PlainNetlist → PlainNetlist
with_states version states net = record net { version = version; states = states }

-- a netlist of a version, of these ports and no lines
abbrev pub versioned : Version → ℕ → ℕ → PlainNetlist
versioned version inputs outputs = with_states version [] (empty_netlist inputs outputs)

-- the wire of a rail
abbrev pub wire_of : Rail → ℕ
wire_of rail = rail.wire.number

-- the wire of an output that may be unused
abbrev pub used : Option WireId → List ℕ
used None = []
used (Some wire) = wire.number ∷ []

-- What stands in a cell, by what it is: each cell is a gate, a splitter or a DROC.

-- an LA or FA, and the wires that it reads and drives
pub record PlainGate : Type 0 where
  pub gate : Gate
  pub a : ℕ
  pub b : ℕ
  pub out : ℕ

-- the wires of a splitter
pub record PlainSplitter : Type 0 where
  pub from : ℕ
  pub left : ℕ
  pub right : ℕ

-- a DROC, and its wires
pub record PlainDroc : Type 0 where
  pub role : Role
  pub preload : Bool
  pub feed : ℕ
  pub q : Option WireId
  pub n : Option WireId

abbrev pub gate_of : Cell → Option PlainGate
gate_of (La a b out) = Some (record { gate = gates.La; a = a.number; b = b.number; out = out.number })
gate_of (Fa a b out) = Some (record { gate = gates.Fa; a = a.number; b = b.number; out = out.number })
gate_of cell = None

abbrev pub splitter_of : Cell → Option PlainSplitter
splitter_of (Split from left right) = Some (record { from = from.number; left = left.number; right = right.number })
splitter_of cell = None

abbrev pub droc_of : Cell → Option PlainDroc
droc_of (Droc role preload feed q n) = Some (record { role = role; preload = preload; feed = feed.number; q = q; n = n })
droc_of cell = None

-- the wires that a cell drives
abbrev pub outs : Cell → List ℕ
outs (La a b out) = out.number ∷ []
outs (Fa a b out) = out.number ∷ []
outs (Split from left right) = left.number ∷ right.number ∷ []
outs (Droc role preload feed q n) = used q ++ used n

-- the wires that a cell reads
abbrev pub reads : Cell → List ℕ
reads (La a b out) = a.number ∷ b.number ∷ []
reads (Fa a b out) = a.number ∷ b.number ∷ []
reads (Split from left right) = from.number ∷ []
reads (Droc role preload feed q n) = feed.number ∷ []

-- the wires that the netlist's lines drive, each as often as it is driven
abbrev pub driven : PlainNetlist → List ℕ
driven net = map wire_of net.input_rails ++ flat_map outs net.cells

-- the wires that the netlist's lines read, each as often as it is read
abbrev pub read : PlainNetlist → List ℕ
read net = flat_map reads net.cells ++ map wire_of net.output_rails

-- one more than the greatest of the numbers, and 0 where there is none
abbrev pub wire_bound : List ℕ → ℕ
wire_bound [] = 0
wire_bound (w ∷ ws) = max (w + 1) (wire_bound ws)

-- one more than the greatest wire number that stands in the netlist
abbrev pub number_of_wires : PlainNetlist → ℕ
number_of_wires net = wire_bound (driven net ++ read net)

-- one more than the greatest wire number that stands in a cell
abbrev pub cell_bound : Cell → ℕ
cell_bound cell = wire_bound (outs cell ++ reads cell)
