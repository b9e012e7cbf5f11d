pub mod Headline
pub mod Sets
