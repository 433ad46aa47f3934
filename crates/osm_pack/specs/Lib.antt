pub mod Cuts
pub mod Likenesses
pub mod View
pub mod Open
pub mod Stops
pub mod Pushing
pub mod Packing
