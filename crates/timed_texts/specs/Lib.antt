-- The words of timings and their text.
pub mod TimedCycles
pub mod Timings
pub mod Texts
pub mod Laws
