pub mod Instances
pub mod Rows
