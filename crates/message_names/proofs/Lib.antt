pub mod CutLemmas
pub mod DigitSteps
pub mod FieldLemmas
pub mod PlaceLemmas
pub mod LetterLemmas
pub mod ReadingLemmas
