pub mod Drafts
pub mod Ledgers
pub mod Names
pub mod Paths
pub mod Real
pub mod Rows
