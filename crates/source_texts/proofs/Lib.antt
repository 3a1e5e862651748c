-- The proofs of this crate.
mod Lists
mod WordLines
mod WholeLines
mod SymbolLines
mod TextHeader
mod Accepting
mod RightLines
mod TextLength
mod ToldMachine
mod Fitting
mod ReadBack
pub mod CallerLemmas
