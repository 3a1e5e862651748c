-- Which rails of a graph's nodes the asked output rails need.
use Rattle.std.specs.Prelude.{◌≡◌, ℕ, ◌<◌, ◌↔◌, List, Bool, false, Some, length, slice_get, slice_index_or, IsTrue, Contains}
use Rattle.pulse_ids.specs.Ids.{NodeLit}
use Rattle.pulse_ids.specs.declared.literals.Sign.{Sign}
use Rattle.pulse_ids.specs.declared.literals.Sign.TheVariants.{Pos, Neg}
use Rattle.cell_netlist.specs.declared.kinds.Ask.{Ask}
use Rattle.cell_netlist.specs.Asked.{signs_of}
use Rattle.aig_core.specs.declared.nodes.Node.TheVariants.{Latch, And}
use Rattle.aig_core.specs.Graphs.{nodes_of, count_of}
use Rattle.graph_build.specs.Built.{PlainBuilt}
use Rattle.pulse_ids.specs.Literals.{rail_sign}

-- the rail of this sign of the literal is that of this node and side
abbrev pub IsRailOf : NodeLit → Sign → ℕ → Sign → Type 0
IsRailOf literal sign node side = (literal.id.number ≡ node) × (rail_sign literal sign ≡ side)

-- the rail of the user and sign needs the rail of the node and side at once: a conjunction's rail needs the rails
-- of that sign of both its literals, and a latch's rail, of either sign, needs the positive rail of what the latch
-- holds next
pub data NeedsAtOnce (built : PlainBuilt) (user : ℕ) (sign : Sign) (node : ℕ) (side : Sign) : Type 0 where
  of_low : (low high : NodeLit) → slice_get (nodes_of built.graph) user ≡ Some (And low high) → IsRailOf low sign node side → NeedsAtOnce built user sign node side
  of_high : (low high : NodeLit) → slice_get (nodes_of built.graph) user ≡ Some (And low high) → IsRailOf high sign node side → NeedsAtOnce built user sign node side
  of_next : (latch : ℕ) (next : NodeLit) → slice_get (nodes_of built.graph) user ≡ Some (Latch latch) → slice_get built.nexts latch ≡ Some next
      → IsRailOf next Pos node side → NeedsAtOnce built user sign node side

-- the least set that holds the asked rails of every output, and with each rail those that it needs at once
pub data Needed (built : PlainBuilt) (ask : Ask) : ℕ → Sign → Type 0 where
  of_output : (node : ℕ) (side : Sign) → (port : ℕ) (literal : NodeLit) (sign : Sign) → slice_get built.outputs port ≡ Some literal → Contains (signs_of ask) sign
      → IsRailOf literal sign node side → Needed built ask node side
  of_user : (node : ℕ) (side : Sign) → (user : ℕ) (sign : Sign) → Needed built ask user sign → NeedsAtOnce built user sign node side → Needed built ask node side

-- for each node, whether its positive rail is needed, and whether its negative rail is
pub record PlainDemand : Type 0 where
  pub positive : List Bool
  pub negative : List Bool

-- of how many nodes a demand tells
abbrev pub nodes_in : PlainDemand → ℕ
nodes_in demand = length demand.positive

-- whether the rail is needed
abbrev pub is_needed : PlainDemand → ℕ → Sign → Bool
is_needed demand node Pos = slice_index_or demand.positive node false
is_needed demand node Neg = slice_index_or demand.negative node false

-- the demand tells of each node of the graph, and says that a rail is needed exactly where it is
pub record IsDemand (built : PlainBuilt) (ask : Ask) (demand : PlainDemand) : Type 0 where
  pub nodes : nodes_in demand ≡ count_of built.graph
  pub exact : (node : ℕ) → node < count_of built.graph → (sign : Sign) → IsTrue (is_needed demand node sign) ↔ Needed built ask node sign
