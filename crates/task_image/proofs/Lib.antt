pub mod Wider
pub mod Tasks
pub mod Whole
pub mod Ordered
pub mod Lean
