-- The laws and what helps with lists, as lemmas that the crates above may cite.
pub use Rattle.source_texts.proofs.Lists.{map_both, map_same}
pub use Rattle.source_texts.proofs.Fitting.{source_machines_fit}
pub use Rattle.source_texts.proofs.ReadBack.{source_texts_are_read}
