-- Which rail of the graph each wire of a netlist carries.
use Rattle.std.specs.Prelude.{◌≡◌, ◌≤◌, ◌<◌, ◌+◌, ◌*◌, ◌/◌, ◌%◌, ◌==◌, ℕ, Bool, true, not, Option, Some, None, List, slice_get, if◌then◌else◌}
use Rattle.pulse_ids.specs.Ids.{NodeLit, WireId}
use Rattle.pulse_ids.specs.declared.literals.Sign.{Sign}
use Rattle.pulse_ids.specs.declared.literals.Sign.TheVariants.{Pos, Neg}
use Rattle.cell_netlist.specs.declared.kinds.Role.TheVariants.{Front, Back, Const}
use Rattle.cell_netlist.specs.declared.lines.Rail.{Rail}
use Rattle.cell_netlist.specs.declared.lines.Cell.{Cell}
use Rattle.cell_netlist.specs.declared.lines.Cell.TheVariants.{La, Fa, Split, Droc}
use Rattle.pulse_ids.specs.Lists.{IsIn, bit_at}
use Rattle.cell_netlist.specs.Netlists.{PlainNetlist, wire_of, SplittersBelow}
use Rattle.cell_netlist.specs.Sound.{IsOn, IsDrocOf, HasQ, IsBackFrom}
use Rattle.cell_netlist.specs.World.{has_sign}
use Rattle.aig_core.specs.Graphs.{nodes_of, count_of}
use Rattle.graph_build.specs.Built.{PlainBuilt}
use Rattle.pulse_ids.specs.Literals.{rail_sign}
use Rattle.aig_core.specs.declared.nodes.Node.TheVariants as nodes

-- the number of a node's rail
abbrev pub rail_number : ℕ → Sign → ℕ
rail_number node Pos = 2 * node
rail_number node Neg = 2 * node + 1

-- the number of a literal's rail of a sign
abbrev pub literal_number : NodeLit → Sign → ℕ
literal_number literal sign = rail_number literal.id.number (rail_sign literal sign)

-- the sign of the rail of a number
abbrev pub sign_in : ℕ → Sign
sign_in rail = if rail % 2 == 0 then Pos else Neg

-- the value of the rail of a number, by the bits of the nodes
abbrev pub rail_bit : List Bool → ℕ → Bool
rail_bit bits rail = has_sign (bit_at bits (rail / 2)) (sign_in rail)

-- how many rails there are; from this number on the labels of links are numbered by latches
abbrev pub rails_in : PlainBuilt → ℕ
rails_in built = 2 * count_of built.graph

-- a gate on the rails of both literals of a conjunction
pub record IsGateOfNode (built : PlainBuilt) (label : ℕ → ℕ) (sign : Sign) (a b out : ℕ) : Type 0 where
  pub node : ℕ
  pub low : NodeLit
  pub high : NodeLit
  pub stands : slice_get (nodes_of built.graph) node ≡ Some (nodes.And low high)
  pub inside : node < count_of built.graph
  pub low_before : low.id.number < node
  pub high_before : high.id.number < node
  pub out_is : label out ≡ rail_number node sign
  pub a_is : label a ≡ literal_number low sign
  pub b_is : label b ≡ literal_number high sign

-- an output that is used carries the rail
abbrev pub IsLabelledIfUsed : (ℕ → ℕ) → Option WireId → ℕ → Type 0
IsLabelledIfUsed label None rail = Unit
IsLabelledIfUsed label (Some wire) rail = label wire.number ≡ rail

-- a back of a latch, whose front takes the positive rail of what the latch holds next
pub record IsBackOf (built : PlainBuilt) (label : ℕ → ℕ) (net : PlainNetlist) (preload : Bool) (link : ℕ) (q n : Option WireId) : Type 0 where
  pub latch : ℕ
  pub node : ℕ
  pub stands : slice_get (nodes_of built.graph) node ≡ Some (nodes.Latch latch)
  pub first : slice_get built.inits latch ≡ Some preload
  pub q_is : IsLabelledIfUsed label q (rail_number node Pos)
  pub n_is : IsLabelledIfUsed label n (rail_number node Neg)
  pub link_is : label link ≡ rails_in built + latch
  pub next : NodeLit
  pub holds : slice_get built.nexts latch ≡ Some next
  pub within : next.id.number < count_of built.graph
  pub front : Cell
  pub feed : ℕ
  pub among : IsIn front net.cells
  pub role : IsDrocOf front Front (not preload) feed
  pub joined : HasQ front link
  pub feed_is : label feed ≡ literal_number next Pos

-- a cell does what its wires' labels say
abbrev pub FitsLabels : PlainBuilt → (ℕ → ℕ) → PlainNetlist → Cell → Type 0
FitsLabels built label net (La a b out) = IsGateOfNode built label Pos a.number b.number out.number
FitsLabels built label net (Fa a b out) = IsGateOfNode built label Neg a.number b.number out.number
FitsLabels built label net (Split from left right) = (label left.number ≡ label from.number) × (label right.number ≡ label from.number)
FitsLabels built label net (Droc Front preload feed q n) = (n ≡ None) × (link : ℕ) × IsOn q link × (rails_in built ≤ label link) × IsBackFrom net link (not preload)
FitsLabels built label net (Droc Back preload feed q n) = IsBackOf built label net preload feed.number q n
FitsLabels built label net (Droc Const preload feed q n) =
    (preload ≡ true) × IsLabelledIfUsed label q (rail_number 0 Neg) × IsLabelledIfUsed label n (rail_number 0 Pos)
    × (own : ℕ) × IsOn n own × (splitters : ℕ) × SplittersBelow net splitters own feed.number

-- an input rail carries its port's rail
pub record IsRailOfInput (built : PlainBuilt) (label : ℕ → ℕ) (rail : Rail) : Type 0 where
  pub node : ℕ
  pub stands : slice_get (nodes_of built.graph) node ≡ Some (nodes.Input rail.port)
  pub wire_is : label (wire_of rail) ≡ rail_number node rail.sign

-- an output rail reads the rail of its sign of its port's literal
pub record IsRailOfOutput (built : PlainBuilt) (label : ℕ → ℕ) (rail : Rail) : Type 0 where
  pub literal : NodeLit
  pub stands : slice_get built.outputs rail.port ≡ Some literal
  pub within : literal.id.number < count_of built.graph
  pub wire_is : label (wire_of rail) ≡ literal_number literal rail.sign

-- every line does what the labels of its wires say
pub record IsLabelled (built : PlainBuilt) (label : ℕ → ℕ) (net : PlainNetlist) : Type 0 where
  pub inputs : (rail : Rail) → IsIn rail net.input_rails → IsRailOfInput built label rail
  pub cells : (cell : Cell) → IsIn cell net.cells → FitsLabels built label net cell
  pub outputs : (rail : Rail) → IsIn rail net.output_rails → IsRailOfOutput built label rail

-- the state of the netlist's latches is this state of the graph's
abbrev pub Matches : PlainBuilt → (ℕ → ℕ) → PlainNetlist → List Bool → (ℕ → Bool) → Type 0
Matches built label net state latches =
    (link latch : ℕ) (preload : Bool) → IsBackFrom net link preload → label link ≡ rails_in built + latch → latches link ≡ bit_at state latch
