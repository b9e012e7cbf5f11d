pub mod Sets
pub mod Seating
pub mod Leading
pub mod Beginning
pub mod Enlisting
pub mod Closing
