pub mod Lean
pub mod Pace
pub mod Rows
