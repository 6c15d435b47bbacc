pub mod Bytes
pub mod Law
