pub mod Code
pub mod Bodies
pub mod Rows
pub mod Runs
pub mod Correct
pub mod Bounds
