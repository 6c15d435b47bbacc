pub mod Generated
pub mod Rows
pub mod Schedule
