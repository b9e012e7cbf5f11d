pub mod Told
pub mod Doors
pub mod Nets
pub mod Jobs
pub mod Spawners
pub mod Memory
pub mod Keeping
pub mod Tcp
