pub mod Numbers
pub mod Dashes
pub mod Walks
pub mod Reading
pub mod Asked
