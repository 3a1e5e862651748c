-- Leanness: nothing useless, nothing twice, nothing foldable, no deep fan-out.
use Rattle.std.specs.Prelude.{◌≡◌, ◌⊎◌, ◌≤◌, ◌<◌, ℕ, Some, List, [], ◌++◌, map, slice_get}
use Rattle.std.specs.List.{flat_map}
use Rattle.cell_netlist.specs.declared.kinds.Gate.{Gate}
use Rattle.cell_netlist.specs.declared.kinds.Gate.TheVariants as gates
use Rattle.cell_netlist.specs.declared.kinds.Role.TheVariants.{Const}
use Rattle.cell_netlist.specs.declared.lines.Rail.{Rail}
use Rattle.cell_netlist.specs.declared.lines.Cell.{Cell}
use Rattle.cell_netlist.specs.declared.lines.Cell.TheVariants.{La, Fa, Split, Droc}
use Rattle.pulse_ids.specs.Lists.{IsIn, HowManyHave, ceil_log2}
use Rattle.cell_netlist.specs.Netlists.{PlainNetlist, wire_of, outs, reads, number_of_wires, IsRoot, IsDroc}

-- The useful wires: the least set that holds every wire read by an output rail, and every wire read by a cell
-- that has a useful output.
pub data Useful (net : PlainNetlist) : ℕ → Type 0 where
  of_output : (wire : ℕ) (rail : Rail) → IsIn rail net.output_rails → wire_of rail ≡ wire → Useful net wire
  of_cell : (wire : ℕ) (cell : Cell) → IsIn cell net.cells → IsIn wire (reads cell) → (out : ℕ) → IsIn out (outs cell) → Useful net out → Useful net wire

-- a cell is a gate of this kind with these ports
abbrev pub IsGateOf : Cell → Gate → ℕ → ℕ → Type 0
IsGateOf (La its_a its_b out) gate a b = (gate ≡ gates.La) × (its_a.number ≡ a) × (its_b.number ≡ b)
IsGateOf (Fa its_a its_b out) gate a b = (gate ≡ gates.Fa) × (its_a.number ≡ a) × (its_b.number ≡ b)
IsGateOf cell gate a b = ⊥

-- a gate of this kind whose ports have these roots
pub record ReadsRoots (net : PlainNetlist) (cell : Cell) (gate : Gate) (root_a root_b : ℕ) : Type 0 where
  pub a : ℕ
  pub b : ℕ
  pub ports : IsGateOf cell gate a b
  pub of_a : IsRoot net root_a a
  pub of_b : IsRoot net root_b b

-- the same two numbers in either order
abbrev pub IsSamePair : ℕ → ℕ → ℕ → ℕ → Type 0
IsSamePair a b c d = ((a ≡ c) × (b ≡ d)) ⊎ ((a ≡ d) × (b ≡ c))

-- two wires are the two rails of one input port
pub record AreRailsOfOnePort (net : PlainNetlist) (one other : ℕ) : Type 0 where
  pub rail : Rail
  pub other_rail : Rail
  pub among : IsIn rail net.input_rails
  pub other_among : IsIn other_rail net.input_rails
  pub wire : wire_of rail ≡ one
  pub other_wire : wire_of other_rail ≡ other
  pub port : rail.port ≡ other_rail.port
  pub signs : rail.sign ≡ other_rail.sign → ⊥

-- two wires are outputs of one DROC
pub record AreOutputsOfOneDroc (net : PlainNetlist) (one other : ℕ) : Type 0 where
  pub cell : Cell
  pub among : IsIn cell net.cells
  pub droc : IsDroc cell
  pub out : IsIn one (outs cell)
  pub other_out : IsIn other (outs cell)

-- the cell is a constant
abbrev pub IsConstant : Cell → Type 0
IsConstant (Droc Const preload feed q n) = Unit
IsConstant cell = ⊥

-- a wire is an output of a constant
pub record IsOutputOfConstant (net : PlainNetlist) (wire : ℕ) : Type 0 where
  pub cell : Cell
  pub among : IsIn cell net.cells
  pub constant : IsConstant cell
  pub out : IsIn wire (outs cell)

-- the wires that cells other than splitters read
abbrev pub reads_of_leaf : Cell → List ℕ
reads_of_leaf (Split from left right) = []
reads_of_leaf cell = reads cell

-- the wires read by readers that are not splitters: ports, feeds and output rails
abbrev pub leaves : PlainNetlist → List ℕ
leaves net = flat_map reads_of_leaf net.cells ++ map wire_of net.output_rails

-- The four properties.
pub record IsLean (net : PlainNetlist) : Type 0 where
  -- every wire is useful
  pub useful : (wire : ℕ) → wire < number_of_wires net → Useful net wire
  -- no two LA cells, and no two FA cells, read the same unordered pair of roots
  pub once : (first later : ℕ) (cell other : Cell) (gate : Gate) (a b c d : ℕ) → first < later
      → slice_get net.cells first ≡ Some cell → slice_get net.cells later ≡ Some other
      → ReadsRoots net cell gate a b → ReadsRoots net other gate c d → IsSamePair a b c d → ⊥
  -- no gate reads one root twice, both rails of a port, both outputs of a DROC, or an output of a constant
  pub no_root_twice : (cell : Cell) (gate : Gate) (a b : ℕ) → IsIn cell net.cells → ReadsRoots net cell gate a b → a ≡ b → ⊥
  pub no_port_twice : (cell : Cell) (gate : Gate) (a b : ℕ) → IsIn cell net.cells → ReadsRoots net cell gate a b → AreRailsOfOnePort net a b → ⊥
  pub no_droc_twice : (cell : Cell) (gate : Gate) (a b : ℕ) → IsIn cell net.cells → ReadsRoots net cell gate a b → AreOutputsOfOneDroc net a b → ⊥
  pub no_constant : (cell : Cell) (gate : Gate) (a b : ℕ) → IsIn cell net.cells → ReadsRoots net cell gate a b
      → (IsOutputOfConstant net a ⊎ IsOutputOfConstant net b) → ⊥
  -- with k readers that are not splitters below a root, each stands at most as many splitters below it as the
  -- logarithm of k, rounded up
  pub balanced : (root wire k : ℕ) → IsIn wire (leaves net) → HowManyHave (λ leaf. IsRoot net root leaf) (leaves net) k
      → (below : IsRoot net root wire) → below.splitters ≤ ceil_log2 k
