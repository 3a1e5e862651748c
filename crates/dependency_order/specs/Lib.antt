-- The words of orders that follow dependencies.
pub mod Lists
pub mod Dependencies
pub mod Orders
pub mod Agendas
pub mod Readers
pub mod Searches
pub mod Examples
