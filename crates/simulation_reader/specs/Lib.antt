-- The definitions of a simulation's input.
pub mod InputTexts
pub mod Reading
pub mod Laws
