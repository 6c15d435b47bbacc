pub mod Inits
pub mod Parts
