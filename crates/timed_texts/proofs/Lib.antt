-- The lemmas on timings and their text.
pub mod TwoPhases
pub mod CycleLists
pub mod OneTiming
pub mod Settled
pub mod TextLines
