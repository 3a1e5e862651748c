-- The orders of the cells.
use Rattle.std.specs.Prelude.{◌<◌, ◌↔◌, ℕ, List, length, take, slice_index, eqb}
use Rattle.std.specs.List.{IsDistinct}
use Rattle.pulse_ids.specs.Lists.{IsIn}
use Rattle.cell_netlist.specs.Netlists.{PlainNetlist}
use Rattle.cell_orders.specs.PassingCells.{Feeds}

-- the numbers of all cells, each once, and each LA, FA or splitter after those whose outputs it reads
pub record IsCellOrder (net : PlainNetlist) (order : List ℕ) : Type 0 where
  pub cells : (c : ℕ) → IsIn c order ↔ (c < length net.cells)
  pub once : IsDistinct eqb order
  pub after : (place : ℕ) → place < length order → (c : ℕ) → Feeds net c (slice_index order place) → IsIn c (take place order)
