pub mod SetLemmas
pub mod SessionLemmas
