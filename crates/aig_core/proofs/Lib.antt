-- Lemmas by subject, and those that other crates may cite.
pub mod CallerLemmas
pub mod FoldLemmas
pub mod GrowthLemmas
pub mod HalfAdder
pub mod NodeBits
pub mod NodeLemmas
pub mod NodePlaces
pub mod PairLemmas
pub mod PlaceLemmas
pub mod TidyLemmas
pub mod ValueLemmas
