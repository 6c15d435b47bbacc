pub mod Switches
pub mod Least
