pub mod Scale
pub mod Entity
pub mod Sources
pub mod Views
pub mod Weight
pub mod EntityTexts
pub mod Ranges
