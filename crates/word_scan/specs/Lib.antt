-- The definitions of lines, words, decimals, and of reading line by line.
pub mod Lines
pub mod Decimals
pub mod Words
pub mod Reading
pub mod Logical
