pub mod BoundingBox
pub mod Degrees
pub mod BoxText
