pub mod Pages
pub mod Order
pub mod Index
pub mod Windows
pub mod Links
pub mod Looking
pub mod Strips
