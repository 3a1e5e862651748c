-- What a constant with the trees of its outputs does to a netlist.
use Rattle.std.specs.Prelude.{◌≡◌, ◌≤◌, ◌+◌, ◌*◌, ◌-◌, ℕ, Bool, true, Some, List, [], ◌∷◌, ◌++◌, nat_lt}
use Rattle.pulse_ids.specs.Ids.{numbered}
use Rattle.cell_netlist.specs.declared.kinds.Role.TheVariants.{Const}
use Rattle.cell_netlist.specs.declared.lines.Cell.{Cell}
use Rattle.cell_netlist.specs.declared.lines.Cell.TheVariants.{Droc}
use Rattle.cell_netlist.specs.Netlists.{PlainNetlist, number_of_wires}
use Rattle.cell_netlist.specs.Sound.{FitsRole}
use Rattle.splitter_trees.specs.Trees.{IsTree}
use Rattle.splitter_trees.specs.Spreading.{Spreads, IsSpread, with_cells}
use Rattle.droc_pairs.specs.Pairs.{asked_output, wires_for}

-- a constant 1 on the next wires, `q` before `n`, whose `q` is used where it is asked for, with this feed
abbrev pub constant_cell : ℕ → Bool → ℕ → Cell
constant_cell next q feed = Droc Const true (numbered feed) (asked_output q next) (Some (numbered (next + wires_for q)))

-- the wire of the constant's `n`, which comes behind its `q` where ones are read
abbrev pub own_wire : ℕ → ℕ → ℕ
own_wire next ones = next + wires_for (nat_lt 0 ones)

-- the first wires of the trees of its `q` and of its `n`
abbrev pub ones_from : ℕ → ℕ → ℕ
ones_from next ones = own_wire next ones + 1

abbrev pub zeros_from : ℕ → ℕ → ℕ
zeros_from next ones = ones_from next ones + 2 * (ones - 1)

-- the tree of a wire that is read, or nothing
pub data HasTreeIfRead (next from readers : ℕ) (cells : List Cell) (leaves : List ℕ) : Type 0 where
  with_tree : 1 ≤ readers → IsTree next from readers cells leaves → Spreads next from readers cells leaves → HasTreeIfRead next from readers cells leaves
  without : readers ≡ 0 → cells ≡ [] → leaves ≡ [] → HasTreeIfRead next from readers cells leaves

-- a wire is spread over its readers, where it has some
pub data IsSpreadIfRead (old new : PlainNetlist) (from readers : ℕ) (leaves : List ℕ) : Type 0 where
  spread : 1 ≤ readers → IsSpread old new from readers leaves → IsSpreadIfRead old new from readers leaves
  unspread : readers ≡ 0 → new ≡ old → leaves ≡ [] → IsSpreadIfRead old new from readers leaves

-- A constant: its cell, the tree of its `q` where ones are read, and the tree of its `n`, whose first leaf is the
-- constant's feed. The cell fits its role.
pub record IsConstant (old new : PlainNetlist) (ones zeros : ℕ) (one zero : List ℕ) : Type 0 where
  pub back : ℕ
  pub one_cells : List Cell
  pub zero_cells : List Cell
  pub added : new ≡ with_cells old (constant_cell (number_of_wires old) (nat_lt 0 ones) back ∷ (one_cells ++ zero_cells))
  pub one_tree : HasTreeIfRead (ones_from (number_of_wires old) ones) (number_of_wires old) ones one_cells one
  pub zero_tree : IsTree (zeros_from (number_of_wires old) ones) (own_wire (number_of_wires old) ones) (zeros + 1) zero_cells (back ∷ zero)
  pub zero_spreads : Spreads (zeros_from (number_of_wires old) ones) (own_wire (number_of_wires old) ones) (zeros + 1) zero_cells (back ∷ zero)
  pub wires : number_of_wires new ≡ zeros_from (number_of_wires old) ones + 2 * zeros
  pub fits : FitsRole new (constant_cell (number_of_wires old) (nat_lt 0 ones) back)

-- cells were added behind, and no other line
pub record GainsCells (old new : PlainNetlist) : Type 0 where
  pub cells : List Cell
  pub added : new ≡ with_cells old cells
