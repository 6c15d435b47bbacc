pub mod Places
pub mod Pieces
pub mod Good
pub mod Running
