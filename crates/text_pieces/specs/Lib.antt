-- The words of texts in pieces.
pub mod Pieces
