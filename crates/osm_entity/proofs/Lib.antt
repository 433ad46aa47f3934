pub mod ScaleLemmas
pub mod TagLemmas
pub mod RangeLemmas
