-- Lemmas by subject.
pub mod ClosedRails
pub mod DemandBits
pub mod ExpandedRails
pub mod FoundRails
pub mod LeastSet
pub mod SmallDemands
