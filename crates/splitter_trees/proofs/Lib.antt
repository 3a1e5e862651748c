pub mod Numbers
pub mod CallerLemmasOnRanges
pub mod TreeLemmas
pub mod SpreadLemmas
pub mod CallerLemmas
