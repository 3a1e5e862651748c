-- The lemmas of this crate.
pub mod Lists
pub mod Noting
pub mod Counting
pub mod Texts
pub mod Writing
pub mod CycleLists
pub mod OrderCycles
pub mod ScriptCycles
pub mod Starts
pub mod WorldCycles
pub mod RunTexts
pub mod OneText
pub mod SimulationsThere
