-- The words of graphs: nodes, folds, values and growth.
pub mod Examples
pub mod Folds
pub mod Graphs
pub mod Growth
pub mod KeptPairs
pub mod Laws
pub mod Pairs
pub mod PlainPairs
pub mod Tidy
pub mod Values
