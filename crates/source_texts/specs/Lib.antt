-- The words of texts that are written from parts.
pub mod Parts
pub mod Texts
pub mod Laws
