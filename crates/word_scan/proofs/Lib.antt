-- The proofs of lines, words and decimals. Other crates cite the lemmas for callers alone.
pub mod CallerLemmasLines
pub mod CallerLemmasReading
pub mod CallerLemmasPieces
pub mod CallerLemmasDecimals
pub mod CutLemmas
pub mod DigitLemmas
pub mod PlainLemmas
pub mod WordLemmas
pub mod CallerLemmasLogical
