-- The tree of a branch, while the tree that it is part of grows.
use Rattle.std.specs.Prelude.{◌≡◌, ◌+◌, ◌*◌, ℕ, List, ◌++◌, length}
use Rattle.cell_netlist.specs.declared.lines.Cell.{Cell}
use Rattle.cell_netlist.specs.Netlists.{PlainNetlist, number_of_wires}
use Rattle.splitter_trees.specs.Trees.{IsTree}
use Rattle.splitter_trees.specs.Spreading.{with_cells}

-- the tree of a wire stands behind the cells, and its leaves behind the kept ones
pub record HasBranch (old new : PlainNetlist) (kept grown : List ℕ) (from readers : ℕ) : Type 0 where
  pub cells : List Cell
  pub leaves : List ℕ
  pub added : new ≡ with_cells old cells
  pub behind : grown ≡ kept ++ leaves
  pub tree : IsTree (number_of_wires old) from readers cells leaves
  pub wires : number_of_wires new + 2 ≡ number_of_wires old + 2 * readers
  pub count : length new.cells + 1 ≡ length old.cells + readers
  pub length_grown : length grown ≡ length kept + readers
