-- The lemmas of this crate.
pub mod CallerLemmas
pub mod Inputs
pub mod Feeding
pub mod Long
pub mod OfBytes
