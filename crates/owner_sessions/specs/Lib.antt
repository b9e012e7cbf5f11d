pub mod Owner
pub mod Plain
pub mod Laws
