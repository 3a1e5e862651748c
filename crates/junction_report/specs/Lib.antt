-- The words of reports.
pub mod Walks
pub mod Paths
pub mod Counts
pub mod Reports
pub mod Depths
pub mod Traces
pub mod Texts
