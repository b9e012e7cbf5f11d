pub mod Shares
pub mod Asking
pub mod Logs
