pub mod Short
pub mod Laws
pub mod Instructions
