pub mod Zips
pub mod Places
pub mod Seated
pub mod Along
pub mod Turns
pub mod Ended
pub mod Looking
pub mod Asked
