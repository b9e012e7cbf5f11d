pub mod Governing
pub mod MailboxNames
pub mod RootLists
pub mod RootSets
pub mod Setups
pub mod Copies
