-- The words of orders of cells.
pub mod PassingCells
pub mod Needs
pub mod CellOrders
