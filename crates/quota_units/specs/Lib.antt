pub mod Causes
pub mod Bytes
pub mod Units
pub mod Limiting
pub mod Digits
pub mod Resources
pub mod Flagging
pub mod Sums
