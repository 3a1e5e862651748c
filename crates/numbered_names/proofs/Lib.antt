-- The proofs of numbered names.
pub mod CallerLemmas
pub mod NameNumbers
pub mod Keys
pub mod NameTables
