pub mod Faults
pub mod Forms
pub mod Steps
pub mod Sizes
pub mod Loops
