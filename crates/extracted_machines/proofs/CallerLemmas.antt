-- The lemmas on variables and literals that the crates above may cite.
pub use Rattle.extracted_machines.proofs.RisingNumbers.{numbers-low, numbers-last, length-numbers}
pub use Rattle.extracted_machines.proofs.Variables.{latch-variables, and-variables}
pub use Rattle.extracted_machines.proofs.LiteralNumbers.{literal-number, latch-numbers, and-numbers}
