pub mod Bases
pub mod Limits
pub mod Admitting
