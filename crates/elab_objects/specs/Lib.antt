pub mod Limits
pub mod Objects
pub mod View
