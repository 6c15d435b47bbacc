pub mod Standing
pub mod Starts
pub mod Located
pub mod Wholes
