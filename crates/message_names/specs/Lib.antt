pub mod Parts
pub mod Sizes
pub mod Fields
pub mod FlagLetters
pub mod Messages
pub mod Written
pub mod Laws
