pub mod Dispatch
pub mod Rows
