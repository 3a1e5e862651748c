-- The definitions of orders, scripts and vectors.
pub mod Choosing
pub mod Logs
pub mod Settling
pub mod Replaying
pub mod Orders
pub mod AddedItems
pub mod PlainVectors
pub mod VectorLines
pub mod VectorTexts
pub mod Tables
pub mod Readings
pub mod Laws
