pub mod Telling
pub mod Opening
pub mod Refusing
pub mod Closing
