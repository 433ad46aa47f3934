pub mod PublishedLemmas
pub mod TaskLemmas
pub mod TracedLemmas
mod ShowingLemmas
pub mod EachLemmas
