pub mod Attempts
pub mod Given
pub mod Parts
pub mod View
