-- The numbers of names, and where they stand.
pub mod Names
pub mod NameTables
