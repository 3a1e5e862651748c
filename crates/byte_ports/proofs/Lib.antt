-- The lemmas of this crate; `CallerLemmas` are for the crates above.
pub mod CallerLemmas
pub mod Pieces
