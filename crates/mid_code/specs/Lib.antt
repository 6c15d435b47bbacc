pub mod Words
pub mod Help
pub mod Machine
pub mod State
pub mod Form
pub mod Reached
pub mod Runs
pub mod Rows
