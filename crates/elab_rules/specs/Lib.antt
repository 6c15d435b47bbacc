pub mod Tells
pub mod Parts
