-- The proofs of this crate. What other crates may cite stands in the files of lemmas for callers.
pub mod CallerLemmas
pub mod PlainLists
pub mod CallerLemmasOnDependencies
pub mod CallerLemmasOnRanges
pub mod CubeValues
pub mod Uniqueness
pub mod BitTables
pub mod GroundedValues
pub mod Existence
pub mod ExampleMachines
pub mod Refusals
pub mod Verdicts
pub mod NetNumbers
pub mod LowestNets
pub mod OrderedEquations
pub mod FaultyNets
pub mod Evaluating
