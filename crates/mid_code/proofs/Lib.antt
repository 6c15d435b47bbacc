pub mod Written
pub mod Labels
pub mod Calls
pub mod Steps
pub mod Runs
pub mod Stands
