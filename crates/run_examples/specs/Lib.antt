pub mod Lines
pub mod Extract
pub mod AnyRun
pub mod Refused
pub mod Packed
pub mod Dropped
pub mod Mistyped
