pub mod Logging
pub mod Lending
pub mod Replying
