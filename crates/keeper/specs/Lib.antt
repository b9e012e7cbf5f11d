pub mod Files
pub mod Calls
pub mod Accounts
pub mod Plan
pub mod Memory
