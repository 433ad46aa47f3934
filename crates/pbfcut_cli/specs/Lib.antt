pub mod Words
pub mod Endings
pub mod Joined
pub mod Commands
