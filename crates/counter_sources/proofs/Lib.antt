-- The proofs of this crate.
mod BitParts
mod Ranges
mod ReadBack
mod ExampleTexts
