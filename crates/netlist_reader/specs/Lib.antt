-- The definitions of netlist texts that are read: what a line says and where it may stand, what is shown early, and the verdict.
pub mod Words
pub mod Statements
pub mod Limits
pub mod Places
pub mod Verdicts
pub mod Building
pub mod Readings
pub mod Laws
