pub mod Heads
pub mod Reading
pub mod Fields
pub mod Judging
pub mod Requests
pub mod Http
pub mod Taking
pub mod Responses
