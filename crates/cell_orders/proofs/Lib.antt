-- The lemmas of this crate.
pub mod Feeding
pub mod Reaching
pub mod CellsInOrder
pub mod CallerLemmas
