pub mod Held
pub mod Pieces
pub mod Code
pub mod Locals
pub mod Runs
pub mod Rows
