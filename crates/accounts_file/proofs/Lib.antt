pub mod ListLemmas
pub mod RootLemmas
pub mod DoubleLemmas
pub mod RuleLemmas
pub mod FileLemmas
pub mod LookupLemmas
