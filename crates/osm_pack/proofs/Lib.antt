pub mod CutLemmas
pub mod CutLaws
pub mod OpenLemmas
pub mod RunLemmas
