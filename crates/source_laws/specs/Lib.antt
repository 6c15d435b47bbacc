pub mod Orderly
pub mod Depth
