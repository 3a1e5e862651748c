-- Which cells and input rails the needed rails of a graph ask for, and which there are in a netlist.
use Rattle.std.specs.Prelude.{ℕ, ◌+◌, ◌||◌, Bool, List, [], ◌∷◌, ◌++◌, map, replicate, length, unwrap_or, option_map, if◌then◌else◌}
use Rattle.std.specs.List.{flat_map, range_with_len}
use Rattle.pulse_ids.specs.declared.literals.Sign.{Sign}
use Rattle.pulse_ids.specs.declared.literals.Sign.TheVariants.{Pos, Neg}
use Rattle.pulse_ids.specs.Lists.{upto}
use Rattle.cell_netlist.specs.declared.kinds.Gate.{Gate}
use Rattle.cell_netlist.specs.declared.kinds.Role.{Role}
use Rattle.cell_netlist.specs.declared.kinds.Role.TheVariants.{Front, Back, Const}
use Rattle.cell_netlist.specs.declared.lines.Cell.{Cell}
use Rattle.cell_netlist.specs.Netlists.{gate_of, droc_of}
use Rattle.aig_core.specs.Graphs.{first_conjunction}
use Rattle.graph_build.specs.Built.{PlainBuilt}
use Rattle.rail_demand.specs.Demands.{PlainDemand, is_needed}
use Rattle.rail_mapper.specs.LatchStages.{latches_needed}
use Rattle.rail_mapper.specs.Tracks.{sign_gate}

-- the gate that a cell is, if it is one
abbrev pub gate_in : Cell → List Gate
gate_in cell = unwrap_or (option_map (λ gate. gate.gate ∷ []) (gate_of cell)) []

-- the role of a cell that is a DROC
abbrev pub role_in : Cell → List Role
role_in cell = unwrap_or (option_map (λ droc. droc.role ∷ []) (droc_of cell)) []

-- a sign, where it is asked for
abbrev pub sign_if : Bool → Sign → List Sign
sign_if asked sign = if asked then sign ∷ [] else []

-- the signs of the needed rails of a node, in order
abbrev pub needed_signs : PlainDemand → ℕ → List Sign
needed_signs demand node = sign_if (is_needed demand node Pos) Pos ++ sign_if (is_needed demand node Neg) Neg

-- the gates of the needed rails of so many nodes from one on: an LA for a positive rail, an FA for a negative one
abbrev pub gates_from : PlainDemand → ℕ → ℕ → List Gate
gates_from demand node count = flat_map (λ its. map sign_gate (needed_signs demand its)) (range_with_len node count)

-- the gates of the needed rails of all conjunctions
abbrev pub gates_for : PlainBuilt → PlainDemand → List Gate
gates_for built demand = gates_from demand (first_conjunction built.graph) (length built.graph.pairs)

-- a constant, where a rail of it is needed
abbrev pub constant_for : PlainDemand → List Role
constant_for demand = if is_needed demand 0 Pos || is_needed demand 0 Neg then Const ∷ [] else []

-- how many latches have a needed rail
abbrev pub pairs_for : PlainBuilt → PlainDemand → ℕ
pairs_for built demand = length (latches_needed built demand built.graph.latches)

-- a constant where a rail of it is needed, a back for each latch of which a rail is needed, and as many fronts
abbrev pub roles_for : PlainBuilt → PlainDemand → List Role
roles_for built demand = constant_for demand ++ (replicate (pairs_for built demand) Back ++ replicate (pairs_for built demand) Front)

-- the ports and signs of the needed rails of so many inputs, by rising ports
abbrev pub inputs_for : PlainDemand → ℕ → List (ℕ × Sign)
inputs_for demand count = flat_map (λ port. map (λ sign. (port, sign)) (needed_signs demand (1 + port))) (upto count)
