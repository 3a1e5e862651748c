-- The words of the checker.
pub mod Verdicts
pub mod Refused
pub mod Counts
pub mod Rails
pub mod DrivingCells
pub mod Needs
pub mod Tables
pub mod States
