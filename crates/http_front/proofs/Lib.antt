pub mod ReaderLemmas
pub mod CutLemmas
pub mod WholeLemmas
pub mod TakeLemmas
