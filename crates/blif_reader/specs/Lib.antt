-- The definitions of rows, states, statements, and of what a BLIF source says.
pub mod Rows
pub mod States
pub mod Refusing
pub mod Latches
pub mod Statements
pub mod Sources
pub mod Bounds
pub mod Readings
pub mod Tellings
pub mod LineRefusals
pub mod ToldVerdicts
pub mod Laws
