-- The lemmas on what drives a wire and on orders of cells that the crates above may cite.
pub use Rattle.cell_orders.proofs.Feeding.{same_cell, passing_below, at_below, feeding_drives, drives_feeding, fed_below, one_drives}
pub use Rattle.cell_orders.proofs.Reaching.{cell_at, need_count, needs_at, yields_at, read_needed, rail_apart, its_cell, all_in_order}
pub use Rattle.cell_orders.proofs.CellsInOrder.{item_below, item_at_below, items_few, need_come, cell_order_is}
