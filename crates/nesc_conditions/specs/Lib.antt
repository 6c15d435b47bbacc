pub mod Signs
pub mod Literals
pub mod Arithmetic
pub mod Conditions
pub mod Frames
pub mod Resolved
pub mod Resolution
pub mod Rows
