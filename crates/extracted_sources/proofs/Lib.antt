-- The proofs of this crate.
mod SameTexts
mod SameMachines
mod KeptNames
mod Ranges
mod ReadBack
