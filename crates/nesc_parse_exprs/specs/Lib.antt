pub mod Climbing
pub mod Closed
pub mod Growing
pub mod Parts
pub mod Stops
pub mod Turns
