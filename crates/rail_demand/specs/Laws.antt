-- What is true of the needed rails of every graph.
use Rattle.std.specs.Prelude.{◌≡◌, ℕ, ◌<◌, Some, slice_get, IsTrue, Contains}
use Rattle.pulse_ids.specs.Ids.{NodeLit}
use Rattle.pulse_ids.specs.declared.literals.Sign.{Sign}
use Rattle.cell_netlist.specs.declared.kinds.Ask.{Ask}
use Rattle.cell_netlist.specs.Asked.{signs_of}
use Rattle.aig_core.specs.Graphs.{count_of}
use Rattle.graph_build.specs.Built.{PlainBuilt, IsWithinGraph}
use Rattle.pulse_ids.specs.Literals.{rail_sign}
use Rattle.rail_demand.specs.Demands.{PlainDemand, is_needed, Needed, NeedsAtOnce, IsDemand}

-- each needed rail is one of a node of the graph
abbrev pub NeededAreInside : Type 0
NeededAreInside =
    (built : PlainBuilt) (ask : Ask) → IsWithinGraph built → (node : ℕ) (sign : Sign) → Needed built ask node sign → node < count_of built.graph

-- a demand has the asked rails of each output
abbrev pub DemandsHaveOutputs : Type 0
DemandsHaveOutputs =
    (built : PlainBuilt) (ask : Ask) (demand : PlainDemand) → IsWithinGraph built → IsDemand built ask demand → (port : ℕ) (literal : NodeLit)
    → slice_get built.outputs port ≡ Some literal → (sign : Sign) → Contains (signs_of ask) sign → IsTrue (is_needed demand literal.id.number (rail_sign literal sign))

-- a demand has, with a rail of a node of the graph, the rails that it needs at once, which are of nodes of the graph too
abbrev pub DemandsAreClosed : Type 0
DemandsAreClosed =
    (built : PlainBuilt) (ask : Ask) (demand : PlainDemand) → IsWithinGraph built → IsDemand built ask demand → (user : ℕ) → user < count_of built.graph → (sign : Sign)
    → IsTrue (is_needed demand user sign) → (node : ℕ) (side : Sign) → NeedsAtOnce built user sign node side → (node < count_of built.graph)
    × IsTrue (is_needed demand node side)
