pub mod Header
pub mod HeaderFaults
pub mod WrittenHeader
