pub mod Controlling
pub mod Hosting
pub mod Openings
pub mod Outcomes
pub mod LedgerChecks
