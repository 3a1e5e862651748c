-- The words of counters' texts.
pub mod Sources
