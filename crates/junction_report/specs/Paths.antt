-- The path of a netlist: the deepest walk that the rules for ties choose.
use Rattle.std.specs.Prelude.{◌≡◌, ◌⊎◌, ◌≤◌, ◌<◌, ℕ, Some, slice_get, List, [], ◌∷◌}
use Rattle.cell_netlist.specs.declared.lines.Cell.{Cell}
use Rattle.cell_netlist.specs.declared.lines.Cell.TheVariants.{La, Fa, Split, Droc}
use Rattle.cell_netlist.specs.Netlists.{PlainNetlist}
use Rattle.junction_report.specs.Walks.{IsPassing, Drives, EndsIn, IsDepth}

-- the depth of a wire: that of the LA, FA or splitter that drives it, and 0 where an input rail or a DROC does
abbrev pub IsWireDepth : PlainNetlist → ℕ → ℕ → Type 0
IsWireDepth net wire depth =
    ((c : ℕ) × Drives net c wire × IsDepth net c depth) ⊎ (((c : ℕ) → Drives net c wire → ⊥) × (depth ≡ 0))

-- of the wires on ports a and b this is the one on port a, unless that on port b has the greater depth
pub record IsDeeperPort (net : PlainNetlist) (a b wire : ℕ) : Type 0 where
  pub depth_a : ℕ
  pub depth_b : ℕ
  pub of_a : IsWireDepth net a depth_a
  pub of_b : IsWireDepth net b depth_b
  pub choice : ((depth_b ≤ depth_a) × (wire ≡ a)) ⊎ ((depth_a < depth_b) × (wire ≡ b))

-- the wire by which the path comes to a cell
abbrev pub ComesBy : PlainNetlist → Cell → ℕ → Type 0
ComesBy net (La a b out) wire = IsDeeperPort net a.number b.number wire
ComesBy net (Fa a b out) wire = IsDeeperPort net a.number b.number wire
ComesBy net (Split from left right) wire = wire ≡ from.number
ComesBy net (Droc role preload feed q n) wire = ⊥

-- the first cell stands before the second one on a path: it drives the wire by which the path comes to that
pub record StandsBefore (net : PlainNetlist) (c d : ℕ) : Type 0 where
  pub cell : Cell
  pub at : slice_get net.cells d ≡ Some cell
  pub wire : ℕ
  pub comes : ComesBy net cell wire
  pub drives : Drives net c wire

abbrev pub StandsBeforeAll : PlainNetlist → ℕ → List ℕ → Type 0
StandsBeforeAll net c [] = Unit
StandsBeforeAll net c (d ∷ rest) = StandsBefore net c d

-- each cell but the last stands before the next one
abbrev pub IsTraced : PlainNetlist → List ℕ → Type 0
IsTraced net [] = Unit
IsTraced net (c ∷ rest) = StandsBeforeAll net c rest × IsTraced net rest

-- the cell has the greatest depth, and none of a lower number has it
pub record IsLowestDeepest (net : PlainNetlist) (c : ℕ) : Type 0 where
  pub depth : ℕ
  pub is : IsDepth net c depth
  pub deepest : (d other : ℕ) → IsDepth net d other → other ≤ depth
  pub lowest : (d : ℕ) → IsDepth net d depth → c ≤ d

-- The path: it begins with a cell of depth 1, goes on by the rule, and ends in the lowest of the deepest cells. It
-- is empty only where there is no LA, FA or splitter.
pub record IsPath (net : PlainNetlist) (path : List ℕ) : Type 0 where
  pub traced : IsTraced net path
  pub first : (c : ℕ) → slice_get path 0 ≡ Some c → IsDepth net c 1
  pub last : (c : ℕ) → EndsIn path c → IsLowestDeepest net c
  pub empty : path ≡ [] → (c : ℕ) → IsPassing net c → ⊥
