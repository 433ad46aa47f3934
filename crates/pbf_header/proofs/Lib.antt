pub mod OneNumber
pub mod Parts
pub mod HeaderLemmas
pub mod WritingLemmas
pub mod HeaderLaw
pub mod ReadHeaderLaw
