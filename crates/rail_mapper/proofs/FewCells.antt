-- The numbers of cells are at most those of the machine.
use Rattle.std.proofs.Common.{◌≡◌, ◌≤◌, ◌+◌, ◌||◌, ℕ, zero, suc, Bool, true, false, List, [], ◌∷◌, ◌++◌, map, replicate, length, refl, arith, if◌then◌else◌}
use Rattle.pulse_ids.specs.declared.literals.Sign.TheVariants.{Pos, Neg}
use Rattle.cell_netlist.specs.declared.kinds.Gate.{Gate}
use Rattle.cell_netlist.specs.declared.kinds.Gate.TheVariants.{La, Fa}
use Rattle.cell_netlist.specs.declared.kinds.Role.{Role}
use Rattle.cell_netlist.specs.declared.kinds.Role.TheVariants.{Front, Back, Const}
use Rattle.cell_netlist.specs.Netlists.{PlainNetlist}
use Rattle.aig_core.specs.Graphs.{first_conjunction}
use Rattle.source_machine.specs.Machines.{PlainMachine}
use Rattle.graph_build.specs.Built.{PlainBuilt, IsGraphOf}
use Rattle.rail_demand.specs.Demands.{PlainDemand, is_needed}
use Rattle.rail_mapper.specs.Cells.{sign_if, needed_signs, gates_from, constant_for, pairs_for, roles_for}
use Rattle.rail_mapper.specs.Mapped.{gates_in, roles_in, is_role, HasFewCells, HasCells}
use Rattle.rail_mapper.specs.Tracks.{sign_gate}
use Rattle.rail_mapper.proofs.FrontStageLemmas.{picked_few}

gates-append : (kind : Gate) (xs ys : List Gate) → gates_in kind (xs ++ ys) ≡ gates_in kind xs + gates_in kind ys
gates-append kind [] ys = omega arith
gates-append kind (x ∷ xs) ys = let r = gates-append kind xs ys in omega arith

roles-append : (kind : Role) (xs ys : List Role) → roles_in kind (xs ++ ys) ≡ roles_in kind xs + roles_in kind ys
roles-append kind [] ys = omega arith
roles-append kind (x ∷ xs) ys = let r = roles-append kind xs ys in omega arith

-- a node has at most one gate of a kind
node_few : (kind : Gate) (p q : Bool) → gates_in kind (map sign_gate (sign_if p Pos ++ sign_if q Neg)) ≤ 1
node_few La true true = omega arith
node_few La true false = omega arith
node_few La false true = omega arith
node_few La false false = omega arith
node_few Fa true true = omega arith
node_few Fa true false = omega arith
node_few Fa false true = omega arith
node_few Fa false false = omega arith

gates_few : (kind : Gate) (demand : PlainDemand) (node count : ℕ) → gates_in kind (gates_from demand node count) ≤ count
gates_few kind demand node zero = omega arith
gates_few kind demand node (suc count) =
    let r = gates_few kind demand (node + 1) count in
    let a = gates-append kind (map sign_gate (needed_signs demand node)) (gates_from demand (node + 1) count) in
    let f = node_few kind (is_needed demand node Pos) (is_needed demand node Neg) in omega arith

-- roles of one kind
same_roles : (kind other : Role) (k : ℕ) → roles_in kind (replicate k other) ≡ (if is_role kind other then k else 0)
same_roles kind other zero = by (is_role kind other)
  where
    by : (b : Bool) → ◌≡◌ {A = ℕ} 0 (if b then 0 else 0)
    by true = refl
    by false = refl
same_roles kind other (suc k) = by (is_role kind other) (same_roles kind other k)
  where
    by : (b : Bool) → roles_in kind (replicate k other) ≡ (if b then k else 0) → (if b then 1 else 0) + roles_in kind (replicate k other) ≡ (if b then suc k else 0)
    by true e = omega arith
    by false e = omega arith

constant_few : (b : Bool) → (roles_in Const (if b then Const ∷ [] else []) ≤ 1) × (roles_in Back (if b then Const ∷ [] else []) ≡ 0) × (roles_in Front (if b then Const ∷ [] else []) ≡ 0)
constant_few true = (omega arith, refl, refl)
constant_few false = (omega arith, refl, refl)

pairs_few : (built : PlainBuilt) (demand : PlainDemand) → pairs_for built demand ≤ built.graph.latches
pairs_few built demand = picked_few (λ latch. is_needed demand (1 + built.graph.inputs + latch) Pos || is_needed demand (1 + built.graph.inputs + latch) Neg) 0 built.graph.latches

constant_role : (b : Bool) → roles_in Const (if b then Const ∷ [] else []) ≡ (if b then 1 else 0)
constant_role true = refl
constant_role false = refl

-- there is one constant where a rail of it is needed, and else none; and as many backs as latches of which a rail is needed
pub role_counts : (built : PlainBuilt) (demand : PlainDemand)
    → (roles_in Const (roles_for built demand) ≡ (if is_needed demand 0 Pos || is_needed demand 0 Neg then 1 else 0)) × (roles_in Back (roles_for built demand) ≡ pairs_for built demand)
role_counts built demand = (
  (let p = parts Const in let b = same_roles Const Back k in let f = same_roles Const Front k in let c = constant_role (is_needed demand 0 Pos || is_needed demand 0 Neg) in omega arith),
  let p = parts Back in let b = same_roles Back Back k in let f = same_roles Back Front k in let c = constant_few (is_needed demand 0 Pos || is_needed demand 0 Neg) in
      omega (arith, c.1),
)
  where
    k : ℕ
    k = pairs_for built demand

    parts : (kind : Role) → roles_in kind (roles_for built demand) ≡ roles_in kind (constant_for demand) + (roles_in kind (replicate k Back) + roles_in kind (replicate k Front))
    parts kind = let a = roles-append kind (constant_for demand) (replicate k Back ++ replicate k Front) in let b = roles-append kind (replicate k Back) (replicate k Front) in omega arith

pub few_cells : (machine : PlainMachine) (built : PlainBuilt) (demand : PlainDemand) (net : PlainNetlist) → IsGraphOf machine built → HasCells built demand net → HasFewCells machine net
few_cells machine built demand net graph h = record {
  las = rw h.gates (let g = gates_few La demand (first_conjunction built.graph) (length built.graph.pairs) in omega (arith, graph.small));
  fas = rw h.gates (let g = gates_few Fa demand (first_conjunction built.graph) (length built.graph.pairs) in omega (arith, graph.small));
  constants = rw h.drocs (let p = parts Const in let b = same_roles Const Back k in let f = same_roles Const Front k in omega (arith, constant.0));
  backs = rw h.drocs (let p = parts Back in let b = same_roles Back Back k in let f = same_roles Back Front k in let few = pairs_few built demand in omega (arith, constant.1, graph.latches));
  fronts = rw h.drocs (
      let p = parts Back in let b = same_roles Back Back k in let f = same_roles Back Front k in
      let q = parts Front in let c = same_roles Front Back k in let g = same_roles Front Front k in omega (arith, constant.1, constant.2));
}
  where
    k : ℕ
    k = pairs_for built demand

    constant : (roles_in Const (constant_for demand) ≤ 1) × (roles_in Back (constant_for demand) ≡ 0) × (roles_in Front (constant_for demand) ≡ 0)
    constant = constant_few (is_needed demand 0 Pos || is_needed demand 0 Neg)

    parts : (kind : Role) → roles_in kind (roles_for built demand) ≡ roles_in kind (constant_for demand) + (roles_in kind (replicate k Back) + roles_in kind (replicate k Front))
    parts kind = let a = roles-append kind (constant_for demand) (replicate k Back ++ replicate k Front) in let b = roles-append kind (replicate k Back) (replicate k Front) in omega arith
