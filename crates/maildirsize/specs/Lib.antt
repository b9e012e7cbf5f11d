pub mod Lines
pub mod Prefixes
pub mod Definition
pub mod SumLine
pub mod Sums
pub mod Written
pub mod Reading
pub mod Laws
