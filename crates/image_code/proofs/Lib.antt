pub mod Labels
pub mod Selected
pub mod Pieces
pub mod Good
pub mod Running
pub mod Whole
