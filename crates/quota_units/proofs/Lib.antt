pub mod CutLemmas
pub mod DigitLemmas
pub mod FlagLemmas
pub mod SumLemmas
pub mod PlaceLemmas
