pub mod Faults
pub mod Members
pub mod Edges
pub mod Areas
pub mod Configs
pub mod Paths
pub mod Readings
