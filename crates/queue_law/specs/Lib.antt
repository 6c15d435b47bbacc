pub mod Contract
pub mod Bytes
pub mod Law
