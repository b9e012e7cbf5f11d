pub mod CutLemmas
pub mod LineLemmas
pub mod SizeLemmas
pub mod Texting
pub mod Wholes
pub mod Answering
pub mod Wording
