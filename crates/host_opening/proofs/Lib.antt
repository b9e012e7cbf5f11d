pub mod Keepers
pub mod Entries
pub mod Opened
pub mod Closed
pub mod Refused
