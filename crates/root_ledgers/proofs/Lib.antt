pub mod ScanLemmas
pub mod SettleLemmas
pub mod LineLemmas
pub mod Sums
pub mod Kept
pub mod Posting
pub mod ScanningLemmas
