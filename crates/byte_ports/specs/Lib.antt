-- The definitions of this crate.
pub mod Causes
pub mod Prefixes
pub mod Scripts
pub mod Writing
