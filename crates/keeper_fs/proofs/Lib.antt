pub mod Texts
pub mod RowLemmas
pub mod NameLemmas
pub mod LineLemmas
