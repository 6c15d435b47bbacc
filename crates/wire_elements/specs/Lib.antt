pub mod Given
pub mod Parts
pub mod Scoped
pub mod View
