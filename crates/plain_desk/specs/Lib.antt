pub mod Owning
pub mod Continuing
