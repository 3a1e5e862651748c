-- Lemmas by subject, and those that other crates may cite.
pub mod Members
pub mod Cuts
pub mod Ranges
pub mod Links
pub mod Bits
pub mod Heaps
pub mod Steps
pub mod Turns
pub mod SmallCase
pub mod CallerLemmas
