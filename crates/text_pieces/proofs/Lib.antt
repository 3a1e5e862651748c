-- The lemmas of this crate.
mod Bytes
