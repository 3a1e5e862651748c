pub mod Trees
pub mod Spreading
pub mod Branches
