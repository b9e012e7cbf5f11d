pub mod Asking
pub mod Coming
pub mod Leading
pub mod Serving
