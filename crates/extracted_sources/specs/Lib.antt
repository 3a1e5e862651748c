-- The words of texts that are read back from netlists.
pub mod Sources
pub mod Laws
