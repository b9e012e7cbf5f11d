pub mod OpeningLemmas
pub mod NoteLemmas
