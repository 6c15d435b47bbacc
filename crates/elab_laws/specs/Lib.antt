pub mod Known
pub mod Formed
pub mod Groups
pub mod WellFormed
pub mod WorkedState
