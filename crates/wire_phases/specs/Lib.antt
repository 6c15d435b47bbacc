pub mod Closed
pub mod Faults
pub mod Rows
pub mod Wired
