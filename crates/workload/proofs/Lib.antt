pub mod Counting
pub mod Joining
pub mod Desks
pub mod Served
pub mod Summing
