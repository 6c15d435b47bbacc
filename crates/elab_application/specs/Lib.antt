pub mod Files
pub mod Ends
pub mod Instances
pub mod Given
pub mod Views
pub mod Rows
