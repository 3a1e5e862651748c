pub mod CallerLemmasOnRanges
pub mod CallerLemmas
pub mod CallerLemmasOnDrocs
pub mod CallerLemmasOnEnds
