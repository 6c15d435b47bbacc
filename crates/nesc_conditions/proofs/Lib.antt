pub mod Digits
pub mod Resolving
pub mod Steps
pub mod Macros
