pub mod Bits
pub mod Ids
pub mod Lists
pub mod Literals
pub mod Names
pub mod Quantities
