-- What a crate above may cite: that too long an input shows a refusal.
pub use Rattle.simulation_reader.proofs.Long.{long-shows}
