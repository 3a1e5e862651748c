-- Trees of splitters: their shapes, and the cells and the leaves of the one balanced tree for so many readers.
use Rattle.std.specs.Prelude.{◌≡◌, ◌≤◌, ◌+◌, ◌-◌, ◌/◌, ℕ, List, [], ◌∷◌, ◌++◌}
use Rattle.pulse_ids.specs.Ids.{numbered}
use Rattle.cell_netlist.specs.declared.lines.Cell.{Cell}
use Rattle.cell_netlist.specs.declared.lines.Cell.TheVariants.{Split}

-- a leaf, or a splitter above two trees
pub data Tree : Type 0 where
  leaf : Tree
  fork : Tree → Tree → Tree

-- how many leaves a tree has
abbrev pub leaves_in : Tree → ℕ
leaves_in leaf = 1
leaves_in (fork left right) = leaves_in left + leaves_in right

-- how many wires its splitters drive
abbrev pub wires_in : Tree → ℕ
wires_in leaf = 0
wires_in (fork left right) = 2 + (wires_in left + wires_in right)

-- the larger half of a number of readers, which goes to the left
abbrev pub larger_half : ℕ → ℕ
larger_half readers = readers - readers / 2

-- the smaller half, which goes to the right
abbrev pub smaller_half : ℕ → ℕ
smaller_half readers = readers / 2

-- One reader has a leaf; more have a splitter above the trees of both halves. There is one such tree for each number.
abbrev pub IsBalanced : ℕ → Tree → Type 0
IsBalanced readers leaf = readers ≡ 1
IsBalanced readers (fork left right) = (2 ≤ readers) × IsBalanced (larger_half readers) left × IsBalanced (smaller_half readers) right

-- the splitters of a tree below a wire, on wires numbered on from the next one: the splitter, then all of its left
-- tree, then its right tree
abbrev pub splitters_of : Tree → ℕ → ℕ → List Cell
splitters_of leaf next from = []
splitters_of (fork left right) next from =
    Split (numbered from) (numbered next) (numbered (next + 1)) ∷ (splitters_of left (next + 2) next ++ splitters_of right (next + 2 + wires_in left) (next + 1))

-- its leaves from left to right
abbrev pub leaves_of : Tree → ℕ → ℕ → List ℕ
leaves_of leaf next from = from ∷ []
leaves_of (fork left right) next from = leaves_of left (next + 2) next ++ leaves_of right (next + 2 + wires_in left) (next + 1)

-- the cells and leaves are those of the balanced tree for so many readers, below a wire and on wires from the next one on
pub record IsTree (next from readers : ℕ) (cells : List Cell) (leaves : List ℕ) : Type 0 where
  pub tree : Tree
  pub balanced : IsBalanced readers tree
  pub splitters : cells ≡ splitters_of tree next from
  pub wires : leaves ≡ leaves_of tree next from
