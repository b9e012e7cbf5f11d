pub mod Desks
pub mod Works
pub mod Taking
