-- The lemmas of this crate.
pub mod Walking
pub mod Greatest
pub mod Levels
pub mod DepthsOfCells
pub mod Tracing
pub mod Lowest
pub mod Sizes
pub mod PathLaws
pub mod Counting
pub mod OneReport
pub mod ReportLines
