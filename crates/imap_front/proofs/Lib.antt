pub mod Rows
pub mod Repeats
pub mod AnswerTexts
pub mod Asking
pub mod Coming
pub mod Lining
pub mod Wording
