-- The rails that a netlist's lines read, in the order in which they take their leaves.
use Rattle.std.specs.Prelude.{ℕ, ◌+◌, ◌-◌, ◌/◌, ◌||◌, Option, Some, None, List, [], ◌∷◌, ◌++◌, map, slice_get, if◌then◌else◌}
use Rattle.std.specs.List.{flat_map, range_with_len}
use Rattle.pulse_ids.specs.Ids.{NodeLit}
use Rattle.pulse_ids.specs.declared.literals.Sign.{Sign}
use Rattle.pulse_ids.specs.declared.literals.Sign.TheVariants.{Pos, Neg}
use Rattle.cell_netlist.specs.declared.kinds.Ask.{Ask}
use Rattle.cell_netlist.specs.Asked.{signs_of}
use Rattle.aig_core.specs.declared.nodes.Node.{Node}
use Rattle.aig_core.specs.Graphs.{nodes_of}
use Rattle.graph_build.specs.Built.{PlainBuilt}
use Rattle.rail_demand.specs.Demands.{PlainDemand, is_needed}
use Rattle.rail_mapper.specs.Labels.{literal_number, sign_in, rails_in}
use Rattle.aig_core.specs.declared.nodes.Node.TheVariants as nodes

-- the rails of a sign that a node's gate reads
abbrev pub fan_in : Option Node → Sign → List ℕ
fan_in None sign = []
fan_in (Some nodes.False) sign = []
fan_in (Some (nodes.Input number)) sign = []
fan_in (Some (nodes.Latch number)) sign = []
fan_in (Some (nodes.And low high)) sign = literal_number low sign ∷ literal_number high sign ∷ []

-- the rails that the gate of a rail reads, where it is needed
abbrev pub rail_uses : PlainBuilt → PlainDemand → ℕ → List ℕ
rail_uses built demand rail = if is_needed demand (rail / 2) (sign_in rail) then fan_in (slice_get (nodes_of built.graph) (rail / 2)) (sign_in rail) else []

-- the rails that the gates of all rails from one on read
abbrev pub gate_uses : PlainBuilt → PlainDemand → ℕ → List ℕ
gate_uses built demand rail = flat_map (rail_uses built demand) (range_with_len rail (rails_in built - rail))

-- the rail that a front reads
abbrev pub front_use : Option NodeLit → List ℕ
front_use None = []
front_use (Some next) = literal_number next Pos ∷ []

-- the rail that a latch's front reads, where a rail of the latch is needed
abbrev pub latch_uses : PlainBuilt → PlainDemand → ℕ → List ℕ
latch_uses built demand latch =
    if is_needed demand (1 + built.graph.inputs + latch) Pos || is_needed demand (1 + built.graph.inputs + latch) Neg then front_use (slice_get built.nexts latch) else []

-- the rails that the fronts read
abbrev pub front_uses : PlainBuilt → PlainDemand → List ℕ
front_uses built demand = flat_map (latch_uses built demand) (range_with_len 0 built.graph.latches)

-- the rails that the output rails read
abbrev pub output_uses : PlainBuilt → Ask → List ℕ
output_uses built ask = flat_map (λ literal. map (literal_number literal) (signs_of ask)) built.outputs

-- the reads that are left where the gates of all rails below one are made
abbrev pub left_from : PlainBuilt → PlainDemand → Ask → ℕ → List ℕ
left_from built demand ask rail = gate_uses built demand rail ++ (front_uses built demand ++ output_uses built ask)

-- all reads
abbrev pub uses : PlainBuilt → PlainDemand → Ask → List ℕ
uses built demand ask = left_from built demand ask 0
