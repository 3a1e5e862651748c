-- The definitions of AIGER 1.9 sources, of what a reader shows of them early, and of their verdict.
pub mod Units
pub mod Numbers
pub mod Headers
pub mod LineChecks
pub mod Deltas
pub mod Symbols
pub mod Sections
pub mod Machines
pub mod Sources
pub mod Building
pub mod Bounds
pub mod Readings
pub mod Laws
