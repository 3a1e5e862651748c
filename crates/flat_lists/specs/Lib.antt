-- The words of flat lists.
pub mod FlatLists
