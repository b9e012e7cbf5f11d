pub mod Scans
pub mod Scanning
pub mod Ledgers
pub mod Settling
pub mod Lines
