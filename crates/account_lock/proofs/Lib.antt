pub mod Seats
pub mod Keeps
pub mod Joins
pub mod Ties
pub mod Moments
