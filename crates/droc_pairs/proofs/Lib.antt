pub mod PairLemmas
pub mod ConstantLemmas
pub mod CallerLemmas
