pub mod Ways
pub mod Statements
