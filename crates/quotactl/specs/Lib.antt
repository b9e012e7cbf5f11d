pub mod Lines
pub mod Ends
pub mod Words
pub mod Checking
pub mod Hosting
pub mod Outcome
pub mod Control
