-- The words of made circuits.
pub mod Counters
pub mod Counting
pub mod Laws
