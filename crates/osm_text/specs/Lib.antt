pub mod Dates
pub mod Quoted
pub mod Digests
pub mod EntityText
pub mod HeaderText
pub mod HeaderJson
