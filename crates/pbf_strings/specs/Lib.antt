pub mod Texts
pub mod TableOut
