pub mod Image
pub mod Order
pub mod Runs
pub mod Lean
