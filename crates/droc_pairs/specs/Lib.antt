pub mod Pairs
pub mod Constants
