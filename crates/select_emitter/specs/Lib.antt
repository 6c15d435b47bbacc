pub mod Code
pub mod Pushes
pub mod Scoped
pub mod Laws
pub mod Rows
