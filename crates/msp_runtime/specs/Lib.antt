pub mod Code
pub mod Routines
pub mod Rows
pub mod Laws
pub mod Pieces
pub mod Emitted
