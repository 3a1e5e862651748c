-- The proofs of this crate.
mod Adding
mod Rising
mod Driving
mod WellFounded
mod BinaryDigits
mod Counted
