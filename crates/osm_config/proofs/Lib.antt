pub mod NameLemmas
pub mod OutputLemmas
pub mod ConfigLemmas
pub mod DistinctOutputs
