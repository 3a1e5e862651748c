pub mod CallerLemmas
pub mod CallerLemmasOnCounts
pub mod Copies
pub mod PackedBits
