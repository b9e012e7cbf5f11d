pub mod PrefixLemmas
pub mod MemberLemmas
pub mod SetLemmas
pub mod MailboxLemmas
pub mod ListLemmas
pub mod GoverningLemmas
pub mod SetupLemmas
