pub mod Turns
pub mod Forms
