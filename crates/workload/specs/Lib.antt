pub mod Texts
pub mod Requests
pub mod Pipes
pub mod Accounts
pub mod Summaries
