pub mod Bytes
pub mod Near
pub mod Codes
pub mod Checks
