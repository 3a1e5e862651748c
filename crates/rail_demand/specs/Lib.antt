-- The words of demands: rails, what a rail needs at once, the least set, and the search for it.
pub mod Demands
pub mod Examples
pub mod Laws
pub mod Rails
pub mod Searching
